-- The letters that came by the history of a log are a beginning of those that it took.
use Rattle.std.proofs.Common.{◌≡◌, ℕ, Bool, true, false, cond, eqb, List, [], ◌∷◌, ◌++◌, length, refl, ap, sym, ◌∙◌, append-nil, append_assoc, inl, inr, suc, All}
use Rattle.ulfm_report_laws.proofs.Common.{WorldRank, Letter, Pattern, Item, count_before, ◌==◌, Entry, Content, come_in, letters_come, false≢true, or_left, cases_Bool, eqb-true, took, took_by, is_revoked, revokes, all_front, all_last, gathered_all, any-push, names, MatchEvent, Post, Come, End, Clear, flat_map-append, history_of, events_by, ends_from, end_at, names_gone}
use Rattle.ulfm_base.specs.declared.item.Item.TheVariants.{Letter as Mail, Gone, Revoke, Enter}
use Rattle.ulfm_log.specs.declared.entry.Entry.TheVariants.{Posted, Cancelled, Revoked, Took}
use Rattle.ulfm_log.proofs.Logs.{took-push}
use Rattle.ulfm_report_laws.proofs.Mail.{mail_on, mail, no_mail, IsTakenFrom}

come_pick : (s c k : ℕ) (b : Bool) → letters_come s c (cond b (End k ∷ []) []) ≡ []
come_pick s c k true = refl
come_pick s c k false = refl

come_end : (s c : ℕ) (test : ℕ → Pattern → Bool) (k : ℕ) (e : MatchEvent) → letters_come s c (end_at test k e) ≡ []
come_end s c test k (Post pattern) = come_pick s c k (test k pattern)
come_end s c test k _ = refl

come_ends : (s c : ℕ) (test : ℕ → Pattern → Bool) (k : ℕ) (history : List MatchEvent) → letters_come s c (ends_from test k history) ≡ []
come_ends s c test k [] = refl
come_ends s c test k (e ∷ history) =
    flat_map-append (come_in s c) (end_at test k e) (ends_from test (suc k) history)
    ∙ ap (λ xs. xs ++ letters_come s c (ends_from test (suc k) history)) (come_end s c test k e)
    ∙ come_ends s c test (suc k) history

come_clear : (s c d : ℕ) (b : Bool) → letters_come s c (cond b [] (Clear d ∷ [])) ≡ []
come_clear s c d true = refl
come_clear s c d false = refl

-- the letter that an entry gives came where its context isn't revoked, and else none
record IsCome (s c : ℕ) (before : List Entry) (events : List MatchEvent) (items : List Item) : Type 0 where
  pub fresh : is_revoked before c ≡ false → letters_come s c events ≡ mail c items
  pub after : is_revoked before c ≡ true → letters_come s c events ≡ []

come_none : {s c : ℕ} {before : List Entry} {events : List MatchEvent} {items : List Item} → letters_come s c events ≡ [] → mail c items ≡ [] → IsCome s c before events items
come_none none empty = record { fresh = λ h. none ∙ sym empty; after = λ h. none }

come_letter : (s c : ℕ) (before : List Entry) (source : WorldRank) (letter : Letter) → letter.envelope.source ≡ source → IsCome s c before (cond (is_revoked before letter.envelope.context.number) [] (Come letter ∷ [])) (cond (eqb source.number s) (Mail letter ∷ []) [])
come_letter s c before source letter same = record {
  fresh = λ h. fresh (is_revoked before letter.envelope.context.number) (eqb letter.envelope.context.number c) (eqb letter.envelope.source.number s) (λ e. ap (is_revoked before) (eqb-true letter.envelope.context.number c e) ∙ h) refl refl (ap (λ r. eqb r.number s) (sym same));
  after = λ h. after (is_revoked before letter.envelope.context.number) (eqb letter.envelope.context.number c) (λ e. ap (is_revoked before) (eqb-true letter.envelope.context.number c e) ∙ h) refl;
} where
  fresh : (v a b : Bool) → (a ≡ true → v ≡ false) → eqb letter.envelope.context.number c ≡ a → eqb letter.envelope.source.number s ≡ b → eqb source.number s ≡ b → letters_come s c (cond v [] (Come letter ∷ [])) ≡ mail c (cond (eqb source.number s) (Mail letter ∷ []) [])
  fresh true true b g e f k = absurd (false≢true (sym (g refl)))
  fresh false true true g e f k = rw (e, f, k) (rw e refl)
  fresh false true false g e f k = rw (e, f, k) refl
  fresh true false true g e f k = rw k (rw e refl)
  fresh true false false g e f k = rw k refl
  fresh false false true g e f k = rw (e, k) (rw e refl)
  fresh false false false g e f k = rw (e, k) refl

  after : (v a : Bool) → (a ≡ true → v ≡ true) → eqb letter.envelope.context.number c ≡ a → letters_come s c (cond v [] (Come letter ∷ [])) ≡ []
  after true a g e = refl
  after false true g e = absurd (false≢true (g refl))
  after false false g e = rw e refl

come_entry : (n s c : ℕ) (before : List Entry) (found : List MatchEvent) (e : Entry) → IsTakenFrom n e → IsCome s c before (events_by before found e) (took_by s e)
come_entry n s c before found (Posted pattern) h = come_none (come_pick s c (length found) (names_gone before pattern.source)) refl
come_entry n s c before found (Cancelled id) h = come_none (come_ends s c (λ k _. count_before found k == id.number) 0 found) refl
come_entry n s c before found (Revoked context) h = come_none (come_clear s c context.number (is_revoked before context.number)) refl
come_entry n s c before found (Took source (Mail letter)) h = come_letter s c before source letter h.1
come_entry n s c before found (Took source Gone) h = come_none (come_ends s c (λ _ pattern. names pattern.source source.number) 0 found) (no_mail c (eqb source.number s) Gone refl)
come_entry n s c before found (Took source (Revoke context)) h = come_none (come_clear s c context.number (is_revoked before context.number)) (no_mail c (eqb source.number s) (Revoke context) refl)
come_entry n s c before found (Took source (Enter entrance)) h = come_none refl (no_mail c (eqb source.number s) (Enter entrance) refl)
come_entry n s c before found _ h = come_none refl refl

-- what came is a beginning of what was taken, and all of it where the context isn't revoked
pub record IsTakenMail (s c : ℕ) (before : List Entry) (found : List MatchEvent) : Type 0 where
  pub rest : List Content
  pub all : letters_come s c found ++ rest ≡ mail c (took before s)
  pub none : is_revoked before c ≡ false → rest ≡ []

taken_more : (n s c : ℕ) (before : List Entry) (found : List MatchEvent) (e : Entry) → IsTakenMail s c before found → IsTakenFrom n e → IsTakenMail s c (before ++ e ∷ []) (found ++ events_by before found e)
taken_more n s c before found e h own =
    let k = come_entry n s c before found e own in
    let came = flat_map-append (come_in s c) found (events_by before found e) in
    let taken = ap (mail c) (took-push before e s) ∙ flat_map-append (mail_on c) (took before s) (took_by s e) in
    elim (cases_Bool (is_revoked before c)) [
      | inl was ↦ record {
        rest = h.rest ++ mail c (took_by s e);
        all = ap (λ xs. xs ++ (h.rest ++ mail c (took_by s e))) (came ∙ ap (λ xs. letters_come s c found ++ xs) (k.after was) ∙ append-nil (letters_come s c found))
            ∙ sym (append_assoc (letters_come s c found) h.rest (mail c (took_by s e)))
            ∙ ap (λ xs. xs ++ mail c (took_by s e)) h.all
            ∙ sym taken;
        none = λ f. absurd (false≢true (sym f ∙ (any-push (revokes c) before e) ∙ or_left (is_revoked before c) (revokes c e) was));
      }
      | inr fresh ↦ record {
        rest = [];
        all = append-nil (letters_come s c (found ++ events_by before found e))
            ∙ came
            ∙ ap (λ xs. xs ++ letters_come s c (events_by before found e)) (sym (append-nil (letters_come s c found)) ∙ ap (λ xs. letters_come s c found ++ xs) (sym (h.none fresh)) ∙ h.all)
            ∙ ap (λ xs. mail c (took before s) ++ xs) (k.fresh fresh)
            ∙ sym taken;
        none = λ f. refl;
      }
    ]

-- what came by the history of a log
pub all_taken : (n s c : ℕ) (log : List Entry) → All (IsTakenFrom n) log → IsTakenMail s c log (history_of log)
all_taken n s c log =
    gathered_all {X = MatchEvent} events_by (λ (before : List Entry) (found : List MatchEvent). All (IsTakenFrom n) before → IsTakenMail s c before found)
    (λ before found e h all. taken_more n s c before found e (h (all_front (IsTakenFrom n) before e all)) (all_last (IsTakenFrom n) before e all))
    [] (λ all. record { rest = []; all = refl; none = λ f. refl }) log
