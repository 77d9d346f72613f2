use Rattle.std.proofs.Common.{◌<◌, ℕ}
use Rattle.ulfm_answer.specs.declared.answer.StepReport.{StepReport}
use Rattle.ulfm_run.specs.inside.Listed.{StarvesHere}
use Rattle.ulfm_run.proofs.Common.{at}
use Rattle.ulfm_run.proofs.proposing.starves_on_it.Given as goal

abbrev pub invariant-loop-step : goal.invariant-loop-step
invariant-loop-step l = (k : ℕ) (x : StepReport) → k < l.step-index → at l.steps k x → StarvesHere l.me l.log l.front l.decision x → ⊥
