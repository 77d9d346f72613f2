use Rattle.std.proofs.Common.{◌≡◌, drop}
use Rattle.ulfm_run_reply.specs.Unfinished.{left_from}
use Rattle.ulfm_run_reply.proofs.trace.left_from.Given as goal

abbrev pub invariant-loop-k : goal.invariant-loop-k
invariant-loop-k l = left_from l.job l.rank 0 l.steps ≡ left_from l.job l.rank l.k (drop l.k l.steps)
