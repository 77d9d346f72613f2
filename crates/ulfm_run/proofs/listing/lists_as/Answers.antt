use Rattle.ulfm_run.proofs.Placed.{listed_further}
use Rattle.ulfm_run.proofs.listing.lists_as.Goals as goal

pub loop-number-preserved : goal.loop-number-preserved
loop-number-preserved c = listed_further c.args.me c.args.log.now c.args.decision.now c.loop-number.number c.loop-number.invariant (c.is_listed_as.ensures.0 c.if-not-is_listed_as.false)
