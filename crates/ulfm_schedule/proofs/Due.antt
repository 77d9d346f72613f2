-- The first step that would bring what is waited for, step by step.
use Rattle.std.proofs.Common.{◌≡◌, ℕ, zero, suc, ◌+◌, Bool, true, false, if◌then◌else◌, drop, List, [], ◌∷◌, ap, sym, ◌∙◌, arith, Option, Some, slice_get}
use Rattle.std.proofs.lemmas.Option.{none-some, same_Some}
use Rattle.ulfm_job.specs.Job.{JobView}
use Rattle.ulfm_job.specs.declared.step.Step.{Step}
use Rattle.ulfm_answer.specs.declared.answer.StepReport.{StepReport}
use Rattle.ulfm_schedule.specs.Waits.{due_from, is_due, may_mean, wanted_by}

-- the rest of a list from a place where something stands
pub drop-there : {X : Type 0} (xs : List X) (i : ℕ) (x : X) → slice_get xs i ≡ Some x → drop i xs ≡ x ∷ drop (i + 1) xs
drop-there [] i x here = absurd (none-some x here)
drop-there (y ∷ xs) zero x here = ap (λ z. z ∷ xs) (same_Some y x here)
drop-there (y ∷ xs) (suc i) x here =
    let next : suc i + 1 ≡ suc (i + 1) = omega arith in
    rw next (drop-there xs i x here)

module _ (j : JobView) (s : ℕ) (need : Step) (position : Option ℕ) (done : List StepReport) (script : List Step) (k : ℕ) (step : Step) (whole : Option ℕ)
    (so_far : due_from j s need position done k (drop k script) ≡ whole) (here : slice_get script k ≡ Some step) where
  -- as it may be played
  abbrev meant : Step
  meant = may_mean j s done (wanted_by need) k step

  due_by : (b : Bool) → is_due need position meant (slice_get done k) ≡ b → (if b then Some k else due_from j s need position done (k + 1) (drop (k + 1) script)) ≡ whole
  due_by b is = ap (λ (t : Bool). if t then Some k else due_from j s need position done (k + 1) (drop (k + 1) script)) (sym is) ∙ sym (ap (due_from j s need position done k) (drop-there script k step here)) ∙ so_far

  -- a step is the first one
  pub due_here : is_due need position meant (slice_get done k) ≡ true → Some k ≡ whole
  due_here is = due_by true is

  -- or none is up to it
  pub due_on : is_due need position meant (slice_get done k) ≡ false → due_from j s need position done (k + 1) (drop (k + 1) script) ≡ whole
  due_on is = due_by false is
