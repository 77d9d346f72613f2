use Rattle.ulfm_base.proofs.Same.{entries_decide}
use Rattle.ulfm_base.proofs.decision.is_same_listing.Goals as goal

pub returns : goal.returns
returns c = rw c.eq.ensures (entries_decide c.args.entries.now c.args.other.now)
