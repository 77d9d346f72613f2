-- Polls after steps that were answered alike.
use Rattle.std.proofs.Common.{◌≡◌, ℕ, zero, suc, List, [], ◌∷◌, ◌++◌, ◌⊎◌, refl, ap, sym, subst, inl, inr}
use Rattle.ulfm_log.specs.State.{State}
use Rattle.ulfm_answer.specs.declared.answer.StepAnswer.{StepAnswer}
use Rattle.ulfm_script.specs.Calls.{message_at, message_of, request_at, request_of}
use Rattle.ulfm_script.specs.GivenUp.{TellsTheSame, TellTheSame}
use Rattle.ulfm_script.proofs.Common.{AnswersStep, Entered, Entry, LeavesOpen, logged, Step, StepReport}
use Rattle.ulfm_script.proofs.Moved.{answers-moved, marked_as, opens-moved, ToldAlike}
use Rattle.ulfm_script.proofs.Polls.{answers_plain, opens_adds}

-- steps that were answered alike tell of the same requests and messages
same_in : (xs ys : List StepReport) → TellTheSame xs ys → (req : ℕ) → (request_at ys req ≡ request_at xs req) × (message_at ys req ≡ message_at xs req)
same_in [] [] h req = (refl, refl)
same_in (x ∷ xs) (y ∷ ys) h zero = (ap request_of (sym h.0.answer), ap message_of (sym h.0.answer))
same_in (x ∷ xs) (y ∷ ys) h (suc req) = same_in xs ys h.1 req
same_in [] (y ∷ ys) h req = absurd h
same_in (x ∷ xs) [] h req = absurd h

pub tell_alike : (xs ys : List StepReport) → TellTheSame xs ys → ToldAlike ys xs
tell_alike xs ys h = record { requests = λ req. (same_in xs ys h req).0; messages = λ req. (same_in xs ys h req).1 }

pub tell_push : (xs ys : List StepReport) (x y : StepReport) → TellTheSame xs ys → TellsTheSame x y → TellTheSame (xs ++ x ∷ []) (ys ++ y ∷ [])
tell_push [] [] x y h s = (s, tt)
tell_push (a ∷ xs) (b ∷ ys) x y h s = (h.0, tell_push xs ys x y h.1 s)
tell_push [] (b ∷ ys) x y h s = absurd h
tell_push (a ∷ xs) [] x y h s = absurd h

-- nothing is added, or one entry
abbrev pub AddsFew : State → State → Type 0
AddsFew old new = (new ≡ old) ⊎ ((e : Entry) × (new ≡ logged old e))

-- a poll changes no marks
unmarked : (r new : State) → AddsFew r new → marked_as r.marks r.keeps new ≡ new
unmarked r new (inl same) = subst (λ (s : State). marked_as r.marks r.keeps s ≡ s) (sym same) refl
unmarked r new (inr one) = subst (λ (s : State). marked_as r.marks r.keeps s ≡ s) (sym one.1) refl

module _ (done other : List StepReport) (alike : ToldAlike done other) (r new : State) (asked : Step) where
  -- a poll answers alike after steps that were answered alike
  pub answers_alike : (answer : StepAnswer) → AnswersStep done r asked answer new → AnswersStep other r asked answer new
  answers_alike answer k =
      let few : AddsFew r new = elim (answers_plain done r asked answer new k) [ inl same ↦ inl same.0 | inr one ↦ inr (one.0, one.2) ] in
      subst (λ (s : State). AnswersStep other r asked answer s) (unmarked r new few) (answers-moved r.marks r.keeps done other alike r new asked answer k)

  -- and leaves its step open alike
  pub opens_alike : LeavesOpen done r asked new → LeavesOpen other r asked new
  opens_alike k =
      let few : AddsFew r new = elim (opens_adds done r asked new k) [ inl same ↦ inl same | inr entry ↦ inr (Entered entry.1.enters.entrance, entry.1.enters.only) ] in
      subst (λ (s : State). LeavesOpen other r asked s) (unmarked r new few) (opens-moved r.marks r.keeps done other alike r new asked k)
