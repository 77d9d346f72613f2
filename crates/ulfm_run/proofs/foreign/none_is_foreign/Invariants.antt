use Rattle.std.proofs.Common.{◌≢◌, ◌<◌, ℕ}
use Rattle.ulfm_base.specs.declared.error.CallError.TheVariants.{NotMember}
use Rattle.ulfm_answer.specs.declared.answer.StepAnswer.TheVariants.{Refused}
use Rattle.ulfm_answer.specs.declared.answer.StepReport.{StepReport}
use Rattle.ulfm_run.proofs.Common.{at, Report}
use Rattle.ulfm_run.proofs.foreign.none_is_foreign.Given as goal

abbrev pub invariant-loop-report : goal.invariant-loop-report
invariant-loop-report l = (r : ℕ) (told : Report) → r < l.report-index → at l.reports r told → (k : ℕ) (step : StepReport) → at told.steps k step → step.answer ≢ Refused NotMember
