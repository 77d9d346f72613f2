use Rattle.std.proofs.Common.{◌≡◌, ℕ, true, ◌<◌}
use Rattle.ulfm_base.specs.RankSet.{has}
use Rattle.ulfm_base.proofs.rank_set.RankSet.is_subset.Given as goal

abbrev pub invariant-loop-rank : goal.invariant-loop-rank
invariant-loop-rank l = (r : ℕ) → r < l.rank → has l.self r ≡ true → has l.other r ≡ true
