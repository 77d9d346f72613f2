use Rattle.std.proofs.Common.{◌||◌}
use Rattle.ulfm_base.proofs.Joined.{IsJoined}
use Rattle.ulfm_base.proofs.rank_set.RankSet.union.Given as goal

abbrev pub invariant-loop-rank : goal.invariant-loop-rank
invariant-loop-rank l = IsJoined ◌||◌ l.fn.self.members l.other.members l.members l.rank
