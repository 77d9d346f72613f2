-- Steps as a report keeps them.
use Rattle.ulfm_job.specs.declared.noted_step.Kept.{Kept}
use Rattle.ulfm_job.specs.declared.noted_step.Kept.TheVariants.{Send, Other}
use Rattle.ulfm_job.specs.declared.step.Step.{Step}
use Rattle.ulfm_job.specs.declared.step.Step.TheVariants as step
use Rattle.ulfm_job.specs.Job.{bodiless}
use Rattle.std.specs.Prelude.{◌≡◌, Some, ⊤}

-- the step of which this is kept
abbrev pub step_of : Kept → Step
step_of (Send to tag body comm) = step.Send to tag body comm
step_of (Other asked) = asked

-- a step that is kept whole has no body
abbrev pub HasBodyNoted : Kept → Type 0
HasBodyNoted (Send to tag body comm) = ⊤
HasBodyNoted (Other asked) = bodiless asked ≡ Some asked
