use Rattle.std.proofs.Common.{◌≡◌, map, take, length}
use Rattle.ulfm_job.proofs.Common.{moved_on}
use Rattle.ulfm_job.proofs.script_with_stop.stopped_at.Given as goal

abbrev pub invariant-loop-step : goal.invariant-loop-step
invariant-loop-step l = l.steps.items ≡ map (moved_on l.fn.at (length l.fn.script)) (take l.step-index l.fn.script)
