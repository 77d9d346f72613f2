-- What the answered steps of a rank sent and posted is what its log has.
use Rattle.std.proofs.Common.{◌≡◌, ℕ, zero, suc, ◌≤◌, inl, inr, List, [], ◌∷◌, ◌++◌, length, refl, ap, sym, ◌∙◌, subst, arith, append-nil, Some, None, All, slice_get}
use Rattle.ulfm_report_laws.proofs.Common.{Pattern, Entry, members_of, history_of, events_by, StepReport, sent_in, closes, flat_map, All-nil, All-push, history-push, MatchEvent, Post, PostAt, IsWellFormed, count_before, lt_or_ge, count_front, PostsNone, HasNoPost, none-events, formed-logged, get_in_front}
use Rattle.ulfm_report_laws.proofs.Orderly.{IsOrderly, orderly-logged, orderly-answered}
use Rattle.ulfm_report_laws.proofs.Mail.{mail_sent, sent_entry, IsTakenFrom, flat-push}
use Rattle.ulfm_report_laws.proofs.Numbers.{number_at, number_of, number_front}
use Rattle.ulfm_report_laws.proofs.Tells.{Tells, sent-logged}

-- each receive of the log's history is one that a step posted
abbrev pub IsCovered : List Entry → List StepReport → Type 0
IsCovered log done = (place : ℕ) (p : Pattern) → PostAt (history_of log) place p → (k number : ℕ) × (number_at done k ≡ Some number) × (count_before (history_of log) place ≡ number)

-- besides, what the steps sent is what the log sent, and each receive of the log is one of theirs
pub record IsHonest (n : ℕ) (log : List Entry) (done : List StepReport) : Type 0 where
  pub orderly : IsOrderly n log done
  pub sends : (c d : ℕ) → flat_map (sent_in (members_of n log c) c d) done ≡ mail_sent c d log
  pub covered : IsCovered log done
  pub formed : IsWellFormed (history_of log)
  pub taken : All (IsTakenFrom n) log

flat_same : {X Y : Type 0} (f g : X → List Y) (xs : List X) → ((k : ℕ) (x : X) → slice_get xs k ≡ Some x → f x ≡ g x) → flat_map f xs ≡ flat_map g xs
flat_same f g [] same = refl
flat_same {X} {Y} f g (x ∷ xs) same = ap (λ ys. ys ++ flat_map f xs) (same 0 x refl) ∙ ap (λ ys. g x ++ ys) (flat_same f g xs (λ k y h. same (suc k) y h))

-- what the steps sent, and one more entry
pub sends-logged : {n : ℕ} {log : List Entry} (e : Entry) {done : List StepReport} (c d : ℕ) → IsHonest n log done → flat_map (sent_in (members_of n (log ++ e ∷ []) c) c d) done ++ sent_entry c d e ≡ mail_sent c d (log ++ e ∷ [])
sends-logged {n} {log} e {done} c d h =
    ap (λ xs. xs ++ sent_entry c d e)
    (flat_same (sent_in (members_of n (log ++ e ∷ []) c) c d) (sent_in (members_of n log c) c d) done (λ k x g. sent-logged n log e done c d x.step x.answer (h.orderly.tells k x g)) ∙ h.sends c d)
    ∙ sym (flat-push (sent_entry c d) log e)

-- past a beginning stands what comes after it
pub past : (xs ys : List MatchEvent) (k : ℕ) (p : Pattern) → HasNoPost ys → length xs ≤ k → slice_get (xs ++ ys) k ≡ Some (Post p) → ⊥
past [] ys k p free l g = free k p g
past (x ∷ xs) ys zero p free l g = absurd (omega (arith, l))
past (x ∷ xs) ys (suc k) p free l g = past xs ys k p free (omega (arith, l)) g

pub covered-logged : (log : List Entry) (e : Entry) (done : List StepReport) → IsCovered log done → PostsNone e → IsCovered (log ++ e ∷ []) done
covered-logged log e done covered none place p g =
    let h = history_of log in
    let es = events_by log h e in
    let at = subst (λ xs. PostAt xs place p) (history-push log e) g in
    elim (lt_or_ge place (length h)) [
      | inl l ↦
          let c = covered place p (get_in_front h es place (Post p) l at) in
          (c.0, c.1, c.2, ap (λ ys. count_before ys place) (history-push log e) ∙ count_front h es place (omega (arith, l)) ∙ c.3)
      | inr far ↦ absurd (past h es place p (none-events log h e none) far at)
    ]

pub covered-answered : (log : List Entry) (done : List StepReport) (x : StepReport) → IsCovered log done → IsCovered log (done ++ x ∷ [])
covered-answered log done x covered place p g = let c = covered place p g in (c.0, c.1, number_front done (x ∷ []) c.0 c.2, c.3)

-- an entry that neither posts nor sends
pub honest-logged : {n : ℕ} {log : List Entry} (e : Entry) {done : List StepReport} → IsHonest n log done → PostsNone e → ((c d : ℕ) → sent_entry c d e ≡ []) → IsTakenFrom n e → IsHonest n (log ++ e ∷ []) done
honest-logged {n} {log} e {done} h none silent own = record {
  orderly = orderly-logged e h.orderly;
  sends = λ c d.
      let now = flat_map (sent_in (members_of n (log ++ e ∷ []) c) c d) done in
      sym (append-nil now) ∙ ap (λ xs. now ++ xs) (sym (silent c d)) ∙ sends-logged e c d h;
  covered = covered-logged log e done h.covered none;
  formed = formed-logged log e h.formed none;
  taken = All-push (IsTakenFrom n) log e h.taken own;
}

-- one more answer, which posted and sent nothing
pub honest-answered : (n : ℕ) {log : List Entry} {done : List StepReport} (x : StepReport) → IsHonest n log done → ((group : List ℕ) (c d : ℕ) → sent_in group c d x ≡ []) → number_of x.answer ≡ None → Tells n log (done ++ x ∷ []) x.step x.answer
    → ((req k : ℕ) (y : StepReport) → closes x.step x.answer ≡ Some req → slice_get done k ≡ Some y → closes y.step y.answer ≡ Some req → ⊥)
    → IsHonest n log (done ++ x ∷ [])
honest-answered n {log} {done} x h silent unposted new first = record {
  orderly = orderly-answered x h.orderly new (λ id e. absurd (cc)) first;
  sends = λ c d. flat-push (sent_in (members_of n log c) c d) done x ∙ ap (λ xs. flat_map (sent_in (members_of n log c) c d) done ++ xs) (silent (members_of n log c) c d) ∙ append-nil (flat_map (sent_in (members_of n log c) c d) done) ∙ h.sends c d;
  covered = covered-answered log done x h.covered;
  formed = h.formed;
  taken = h.taken;
}

-- a rank that starts
pub honest-start : (n : ℕ) → IsHonest n [] []
honest-start n = record {
  orderly = record {
    tells = λ k x g. absurd (cc);
    below = λ k id g. absurd (cc);
    rises = λ j k id jd l g f. absurd (cc);
    once = λ j k req x y l g f. absurd (cc);
  };
  sends = λ c d. refl;
  covered = λ place p g. absurd (cc);
  formed = record { ends = λ i k g. absurd (cc); no_posts = λ k i p l g f. let bad : ⊥ = cc in bad; no_letters = λ k b l m g f. let bad : ⊥ = cc in bad };
  taken = All-nil (IsTakenFrom n);
}
