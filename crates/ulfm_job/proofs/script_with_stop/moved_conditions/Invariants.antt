use Rattle.std.proofs.Common.{◌≡◌, map, take}
use Rattle.ulfm_job.specs.Job.{moved_condition}
use Rattle.ulfm_job.proofs.script_with_stop.moved_conditions.Given as goal

abbrev pub invariant-loop-condition : goal.invariant-loop-condition
invariant-loop-condition l = l.moved.items ≡ map (moved_condition l.fn.rank l.fn.at l.fn.len) (take l.condition-index l.fn.conditions)
