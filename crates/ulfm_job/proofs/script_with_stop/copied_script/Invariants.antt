use Rattle.std.proofs.Common.{◌≡◌, take}
use Rattle.ulfm_job.proofs.script_with_stop.copied_script.Given as goal

abbrev pub invariant-loop-step : goal.invariant-loop-step
invariant-loop-step l = l.steps.items ≡ take l.step-index l.fn.script
