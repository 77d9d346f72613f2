use Rattle.std.proofs.Common.{◌≡◌, ◌<◌, ℕ, true}
use Rattle.ulfm_base.specs.RankSet.{has}
use Rattle.ulfm_run.proofs.Common.{StoppedAt}
use Rattle.ulfm_run.proofs.adopted.excludes_stopped.Given as goal

abbrev pub invariant-loop-number : goal.invariant-loop-number
invariant-loop-number l = (k : ℕ) → k < l.number → has l.excluded k ≡ true → StoppedAt l.reports k
