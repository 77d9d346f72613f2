use Rattle.std.proofs.Common.{◌≡◌, map, take}
use Rattle.ulfm_job.specs.Job.{moved_clause}
use Rattle.ulfm_job.proofs.script_with_stop.moved_clauses.Given as goal

abbrev pub invariant-loop-clause : goal.invariant-loop-clause
invariant-loop-clause l = l.moved.items ≡ map (moved_clause l.fn.rank l.fn.at l.fn.len) (take l.clause-index l.fn.clauses)
