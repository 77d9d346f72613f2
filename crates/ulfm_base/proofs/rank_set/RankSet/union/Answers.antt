use Rattle.std.proofs.Common.{◌||◌, arith}
use Rattle.ulfm_base.proofs.Joined.{joined_more}
use Rattle.ulfm_base.proofs.rank_set.RankSet.union.Goals as goal

pub loop-rank-preserved : goal.loop-rank-preserved
loop-rank-preserved c = joined_more ◌||◌ c.args.self.members _ _ _ (omega arith) c.loop-rank.invariant
