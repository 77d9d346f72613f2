use Rattle.std.proofs.Common.{◌≡◌, map, take}
use Rattle.ulfm_job.specs.Job.{moved_naming}
use Rattle.ulfm_job.proofs.script_with_stop.moved_namings.Given as goal

abbrev pub invariant-loop-naming : goal.invariant-loop-naming
invariant-loop-naming l = l.moved.items ≡ map (moved_naming l.fn.rank l.fn.at l.fn.len) (take l.naming-index l.fn.namings)
