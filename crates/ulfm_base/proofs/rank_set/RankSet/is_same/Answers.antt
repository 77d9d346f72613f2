use Rattle.ulfm_base.proofs.Same.{sets_decide}
use Rattle.ulfm_base.proofs.rank_set.RankSet.is_same.Goals as goal

pub returns : goal.returns
returns c = rw c.eq.ensures (sets_decide c.args.self c.args.other)
