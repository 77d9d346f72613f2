use Rattle.std.proofs.Common.{◌≡◌, map, take}
use Rattle.ulfm_job.specs.Job.{moved_left}
use Rattle.ulfm_job.proofs.script_with_stop.moved_left.Given as goal

abbrev pub invariant-loop-step : goal.invariant-loop-step
invariant-loop-step l = l.moved.items ≡ map (moved_left l.fn.rank l.fn.at l.fn.len) (take l.step-index l.fn.left)
