use Rattle.std.proofs.Common.{◌≢◌, ◌<◌, ℕ}
use Rattle.ulfm_base.specs.declared.error.CallError.TheVariants.{NotMember}
use Rattle.ulfm_answer.specs.declared.answer.StepAnswer.TheVariants.{Refused}
use Rattle.ulfm_answer.specs.declared.answer.StepReport.{StepReport}
use Rattle.ulfm_run.proofs.Common.{at}
use Rattle.ulfm_run.proofs.foreign.are_own.Given as goal

abbrev pub invariant-loop-step : goal.invariant-loop-step
invariant-loop-step l = (k : ℕ) (x : StepReport) → k < l.step-index → at l.steps k x → x.answer ≢ Refused NotMember
