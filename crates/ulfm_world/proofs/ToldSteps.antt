-- Steps that tell the same, one by one.
use Rattle.std.proofs.Common.{◌≡◌, ℕ, zero, suc, List, [], ◌∷◌, ◌⊎◌, refl, ap, sym, subst, inl, inr, Option, Some, None}
use Rattle.ulfm_world.proofs.Common.{at, none-some, Player, same_Some, Step, step_report, StepReport}
use Rattle.ulfm_answer.specs.declared.answer.StepAnswer.TheVariants.{Unfinished}
use Rattle.ulfm_base.proofs.Longer.{get_cases}
use Rattle.ulfm_match.proofs.Cut.{get_front}
use Rattle.ulfm_script.specs.GivenUp.{given_up_by, TellsTheSame, TellTheSame}

-- the step at this place of the other list
pub told_here : (xs ys : List StepReport) → TellTheSame xs ys → (k : ℕ) (y : StepReport) → at ys k y → (x : StepReport) × at xs k x × TellsTheSame x y
told_here [] [] h k y stands = absurd (none-some y stands)
told_here (a ∷ xs) (b ∷ ys) h zero y stands = (a, refl, subst (λ (z : StepReport). TellsTheSame a z) (same_Some b y stands) h.0)
told_here (a ∷ xs) (b ∷ ys) h (suc k) y stands = told_here xs ys h.1 k y stands
told_here [] (b ∷ ys) h k y stands = absurd h
told_here (a ∷ xs) [] h k y stands = absurd h

-- and the one that it tells of
pub told_there : (xs ys : List StepReport) → TellTheSame xs ys → (k : ℕ) (x : StepReport) → at xs k x → (y : StepReport) × at ys k y × TellsTheSame x y
told_there [] [] h k x stands = absurd (none-some x stands)
told_there (a ∷ xs) (b ∷ ys) h zero x stands = (b, refl, subst (λ (z : StepReport). TellsTheSame z b) (same_Some a x stands) h.0)
told_there (a ∷ xs) (b ∷ ys) h (suc k) x stands = told_there xs ys h.1 k x stands
told_there [] (b ∷ ys) h k x stands = absurd h
told_there (a ∷ xs) [] h k x stands = absurd h

-- an answered step stays where it is when the open one is given up
pub kept_at : (current : Option Step) (p : Player) (k : ℕ) (x : StepReport) → at p.done k x → at (given_up_by current p).done k x
kept_at None p k x stands = stands
kept_at (Some asked) p k x stands = get_front p.done (step_report asked Unfinished p.at p.polls ∷ []) k x stands

-- and no other step comes then but one that is given up
pub else_open : (current : Option Step) (p : Player) (k : ℕ) (x : StepReport) → at (given_up_by current p).done k x → at p.done k x ⊎ (x.answer ≡ Unfinished)
else_open None p k x stands = inl stands
else_open (Some asked) p k x stands = elim (get_cases p.done (step_report asked Unfinished p.at p.polls) k x stands) [
  | inl was ↦ inl was
  | inr now ↦ inr (ap (λ (y : StepReport). y.answer) (sym now.1))
]
