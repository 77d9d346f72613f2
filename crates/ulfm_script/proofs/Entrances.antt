-- Which step has an answer, and which step entered a topic.
use Rattle.std.proofs.Common.{◌≡◌, ℕ, zero, suc, ◌+◌, ◌<◌, ◌≤◌, List, [], ◌∷◌, ◌++◌, length, refl, ap, sym, subst, ◌∙◌, arith, inl, inr, Some, append_assoc, length-append, All, slice_get}
use Rattle.ulfm_base.specs.Lists.{at}
use Rattle.ulfm_match.proofs.Decide.{lt_or_ge}
use Rattle.ulfm_base.proofs.Longer.{get_here}
use Rattle.ulfm_script.specs.Answered.{AnsweredByCall, AnsweredByDecision, AnswerFollows, EachAnswerFollows, LeftByCall, LeftUndecided, WasSkipped, by_call, left_by_call, by_decision, left_undecided, by_skip}
use Rattle.ulfm_script.proofs.Answers.{answers-push}
use Rattle.ulfm_script.proofs.Common.{Adopted, All-head, All-tail, AnswersFollow, Entered, EntersBetween, EntersBy, Entrance, Entry, IsTook, Known, logged, OnlyTook, Report, same_Some, slice_get_within, State, Step, StepReport, StoodAt, Topic, ⊤}
use Rattle.ulfm_script.proofs.Polls.{answers_plain, opens_adds, adoption_adds}
use Rattle.ulfm_script.proofs.Says.{IsApart}

-- one of these steps is answered rightly, after the answers of the steps before it
pub record IsAnswered (known : Known) (r : State) (steps : List StepReport) (report : StepReport) : Type 0 where
  pub done : List StepReport
  pub rest : List StepReport
  pub whole : done ++ report ∷ rest ≡ steps
  pub from : ℕ
  pub to : ℕ
  pub before : EachAnswerFollows known r [] 0 done from
  pub follows : AnswerFollows known r done from report to

-- a step entered a topic at this place of the log, after items alone were taken from another one
pub record EntersAt (r : State) (from place : ℕ) (asked : Step) (entrance : Entrance) : Type 0 where
  pub topic : Topic
  pub old : State
  pub new : State
  pub stood : StoodAt r place old
  pub took : OnlyTook r.log from place
  pub enters : EntersBy old asked topic new
  pub is : enters.enters.entrance ≡ entrance

took_there : (front between rest : List Entry) (p : ℕ) (e : Entry) → length front ≤ p → p < length front + length between → All IsTook between → slice_get (front ++ (between ++ rest)) p ≡ Some e → IsTook e
took_there [] [] rest p e low high all g = absurd (omega (arith, high))
took_there [] (x ∷ xs) rest zero e low high all g = subst IsTook (same_Some x e g) (All-head IsTook x xs all)
took_there [] (x ∷ xs) rest (suc p) e low high all g = took_there [] xs rest p e (omega arith) (omega (arith, high)) (All-tail IsTook x xs all) g
took_there (x ∷ xs) between rest zero e low high all g = absurd (omega (arith, low))
took_there (x ∷ xs) between rest (suc p) e low high all g = took_there xs between rest p e (omega (arith, low)) (omega (arith, high)) all g

-- where items alone were taken, each entry tells of one
took_only : (log : List Entry) (from to p : ℕ) (e : Entry) → OnlyTook log from to → from ≤ p → p < to → at log p e → IsTook e
took_only log from to p e h low high g =
    took_there h.front h.between h.rest p e (omega (arith, low, h.begins)) (omega (arith, high, h.begins, h.ends)) h.took (ap (λ (l : List Entry). slice_get l p) h.whole ∙ g)

-- an entry is no entrance
abbrev IsBare : Entry → Type 0
IsBare (Entered entrance) = ⊥
IsBare _ = ⊤

bare_apart : (e : Entry) → IsApart e → IsBare e
bare_apart (Adopted d) h = tt
bare_apart (Entered entrance) h = h
bare_apart _ h = tt

module _ (r : State) where
  -- an entry that was added stands at its place
  pub added_at : (n m : ℕ) (old new : State) (e : Entry) → StoodAt r n old → StoodAt r m new → new ≡ logged old e → at r.log n e
  added_at n m old new e stood next is =
      rw stood.entries at (ap (λ (l : List Entry). slice_get l (length old.log)) (sym next.beginning ∙ ap (λ (s : State). s.log ++ next.rest) is ∙ append_assoc old.log (e ∷ []) next.rest) ∙ get_here old.log e next.rest)

  added_to : (n m : ℕ) (old new : State) (e : Entry) → StoodAt r n old → StoodAt r m new → new ≡ logged old e → m ≡ n + 1
  added_to n m old new e stood next is = omega (arith, stood.entries, next.entries, ap (λ (s : State). length s.log) is, length-append old.log (e ∷ []))

  same_to : (n m : ℕ) (old new : State) → StoodAt r n old → StoodAt r m new → new ≡ old → m ≡ n
  same_to n m old new stood next is = omega (arith, stood.entries, next.entries, ap (λ (s : State). length s.log) is)

  -- the entrance between two places is where the step entered
  enters_between : (asked : Step) (topic : Topic) (from to p : ℕ) (e : Entrance) → EntersBetween r asked topic from to → from ≤ p → p < to → at r.log p (Entered e) → EntersAt r from p asked e
  enters_between asked topic from to p e h low high g = elim (lt_or_ge p h.place) [
    | inl early ↦ absurd (took_only r.log from h.place p (Entered e) h.took_before low early g)
    | inr past ↦ elim (lt_or_ge h.place p) [
      | inl late ↦ absurd (took_only r.log (h.place + 1) to p (Entered e) h.took_after (omega (arith, late)) high g)
      | inr back ↦
          let here : h.place ≡ p = omega (arith, past, back) in
          let is : Entered h.enters.enters.entrance ≡ Entered e = same_Some _ _ (sym (added_at h.place (h.place + 1) h.old h.new (Entered h.enters.enters.entrance) h.stood h.stood_next h.enters.enters.only) ∙ ap (slice_get r.log) here ∙ g) in
          record { topic = topic; old = h.old; new = h.new; stood = rw (← here) h.stood; took = rw (← here) h.took_before; enters = h.enters; is = cc }
    ]
  ]

  -- what a step adds that is no entrance
  none_entered : (n m p : ℕ) (old new : State) (x : Entry) (e : Entrance) → StoodAt r n old → StoodAt r m new → IsBare x → new ≡ logged old x → n ≤ p → p < m → at r.log p (Entered e) → ⊥
  none_entered n m p old new x e stood next bare is low high g =
      let here : n ≡ p = omega (arith, added_to n m old new x stood next is, low, high) in
      subst IsBare (same_Some x (Entered e) (sym (added_at n m old new x stood next is) ∙ ap (slice_get r.log) here ∙ g)) bare

  module _ (known : Known) (done : List StepReport) (from : ℕ) (x : StepReport) (to p : ℕ) (e : Entrance) (low : from ≤ p) (high : p < to) (g : at r.log p (Entered e)) where
    module _ (old new : State) (stood : StoodAt r x.at old) (next : StoodAt r to new) where
      called : AnsweredByCall r done from x old new → EntersAt r from p x.step e
      called h = elim (lt_or_ge p x.at) [
        | inl early ↦ absurd (took_only r.log from x.at p (Entered e) h.took low early g)
        | inr past ↦ elim (answers_plain done old x.step x.answer new h.answers) [
          | inl same ↦ absurd (omega (arith, same_to x.at to old new stood next same.0, past, high))
          | inr one ↦ absurd (none_entered x.at to p old new one.0 e stood next (bare_apart one.0 one.1.apart) one.2 past high g)
        ]
      ]

      opened : LeftByCall r done from x old new → EntersAt r from p x.step e
      opened h = elim (lt_or_ge p x.at) [
        | inl early ↦ absurd (took_only r.log from x.at p (Entered e) h.took low early g)
        | inr past ↦ elim (opens_adds done old x.step new h.opens) [
          | inl same ↦ absurd (omega (arith, same_to x.at to old new stood next same, past, high))
          | inr entry ↦
              let here : x.at ≡ p = omega (arith, added_to x.at to old new (Entered entry.1.enters.entrance) stood next entry.1.enters.only, past, high) in
              let is : Entered entry.1.enters.entrance ≡ Entered e =
              same_Some _ _ (sym (added_at x.at to old new (Entered entry.1.enters.entrance) stood next entry.1.enters.only) ∙ ap (slice_get r.log) here ∙ g) in
              record { topic = entry.0; old = old; new = new; stood = rw (← here) stood; took = rw (← here) h.took; enters = entry.1; is = cc }
        ]
      ]

      decided : AnsweredByDecision known r from x old new → EntersAt r from p x.step e
      decided h = elim (lt_or_ge p x.at) [
        | inl early ↦ enters_between x.step h.topic from x.at p e h.entered low early g
        | inr past ↦ absurd (elim h.outcome [
          | inl a ↦ elim (adoption_adds old x.step h.topic a.held x.answer new a.adoption) [
            | inl same ↦ omega (arith, same_to x.at to old new stood next same, past, high)
            | inr one ↦ none_entered x.at to p old new (Adopted a.held) e stood next tt one.1 past high g
          ]
          | inr none ↦ omega (arith, same_to x.at to old new stood next none.only, past, high)
        ])
      ]

      undecided : LeftUndecided r from x old new → EntersAt r from p x.step e
      undecided h = elim (lt_or_ge p x.at) [
        | inl early ↦ enters_between x.step h.topic from x.at p e h.entered low early g
        | inr past ↦ absurd (omega (arith, same_to x.at to old new stood next h.only, past, high))
      ]

      skipped : WasSkipped r from x old new → EntersAt r from p x.step e
      skipped h = elim (lt_or_ge p x.at) [
        | inl early ↦ absurd (took_only r.log from x.at p (Entered e) h.took low early g)
        | inr past ↦ absurd (omega (arith, same_to x.at to old new stood next h.only, past, high))
      ]

    entered_in : AnswerFollows known r done from x to → EntersAt r from p x.step e
    entered_in h = elim h.how [
      | by_call a ↦ called h.old h.new h.stood h.stood_next a
      | left_by_call a ↦ opened h.old h.new h.stood h.stood_next a
      | by_decision a ↦ decided h.old h.new h.stood h.stood_next a
      | left_undecided a ↦ undecided h.old h.new h.stood h.stood_next a
      | by_skip a ↦ skipped h.old h.new h.stood h.stood_next a
    ]

module _ (known : Known) (r : State) where
  -- step k of those that are left
  left_answered : (done : List StepReport) (from : ℕ) (xs : List StepReport) (to : ℕ) → EachAnswerFollows known r [] 0 done from → EachAnswerFollows known r done from xs to → (k : ℕ) (x : StepReport) → slice_get xs k ≡ Some x
      → (a : IsAnswered known r (done ++ xs) x) × (length a.done ≡ length done + k)
  left_answered done from [] to b h k x g = cc
  left_answered done from (y ∷ ys) to b h zero x g =
      (record { done = done; rest = ys; whole = ap (λ (z : StepReport). done ++ z ∷ ys) (sym (same_Some y x g)); from = from; to = h.0; before = b; follows = subst (λ (z : StepReport). AnswerFollows known r done from z h.0) (same_Some y x g) h.1 }, omega arith)
  left_answered done from (y ∷ ys) to b h (suc k) x g =
      let a = left_answered (done ++ y ∷ []) h.0 ys to (answers-push known r done from y h.0 b h.1) h.2 k x g in
      (record { done = a.0.done; rest = a.0.rest; whole = a.0.whole ∙ append_assoc done (y ∷ []) ys; from = a.0.from; to = a.0.to; before = a.0.before; follows = a.0.follows }, omega (arith, a.1, length-append done (y ∷ [])))

  -- the step of those that are left whose part of the log has this place
  left_over : (done : List StepReport) (from : ℕ) (xs : List StepReport) (to p : ℕ) → EachAnswerFollows known r [] 0 done from → EachAnswerFollows known r done from xs to → from ≤ p → p < to
      → (x : StepReport) × (a : IsAnswered known r (done ++ xs) x) × (a.from ≤ p) × (p < a.to)
  left_over done from [] to p b h low high = absurd (omega (arith, low, high, h))
  left_over done from (y ∷ ys) to p b h low high = elim (lt_or_ge p h.0) [
    | inl here ↦ (y, record { done = done; rest = ys; whole = refl; from = from; to = h.0; before = b; follows = h.1 }, low, here)
    | inr past ↦
        let a = left_over (done ++ y ∷ []) h.0 ys to p (answers-push known r done from y h.0 b h.1) h.2 past high in
        (a.0, record { done = a.1.done; rest = a.1.rest; whole = a.1.whole ∙ append_assoc done (y ∷ []) ys; from = a.1.from; to = a.1.to; before = a.1.before; follows = a.1.follows }, a.2, a.3)
  ]

-- step k of a report with right answers is answered rightly, after k steps
pub nth_answered : (known : Known) (told : Report) → AnswersFollow known told → (k : ℕ) (x : StepReport) → slice_get told.steps k ≡ Some x → (a : IsAnswered known told.rank told.steps x) × (length a.done ≡ k)
nth_answered known told h k x g = let a = left_answered known told.rank [] 0 told.steps h.last refl h.answers k x g in (a.0, omega (arith, a.1))

-- each entrance of a log is one of a step's
pub entered_by_step : (known : Known) (told : Report) → AnswersFollow known told → (p : ℕ) (e : Entrance) → at told.rank.log p (Entered e)
    → (x : StepReport) × (a : IsAnswered known told.rank told.steps x) × EntersAt told.rank a.from p x.step e
entered_by_step known told h p e g = elim (lt_or_ge p h.last) [
  | inl inside ↦
      let a = left_over known told.rank [] 0 told.steps h.last p refl h.answers (omega arith) inside in
      (a.0, a.1, entered_in told.rank known a.1.done a.1.from a.0 a.1.to p e a.2 a.3 g a.1.follows)
  | inr past ↦ absurd (took_only told.rank.log h.last (length told.rank.log) p (Entered e) h.took past (slice_get_within told.rank.log p (Entered e) g) g)
]
