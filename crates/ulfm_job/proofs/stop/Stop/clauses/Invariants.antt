use Rattle.std.proofs.Common.{◌≡◌, map, take}
use Rattle.ulfm_job.specs.Job.{moved_clause}
use Rattle.ulfm_job.specs.Place.{before}
use Rattle.ulfm_job.proofs.stop.Stop.clauses.Given as goal

abbrev pub invariant-loop-clause : goal.invariant-loop-clause
invariant-loop-clause l = l.moved.items ≡ map (moved_clause l.fn.self.rank (before l.fn.self) l.fn.len) (take l.clause-index l.fn.clauses)
