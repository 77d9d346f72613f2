use Rattle.ulfm_base.proofs.Same.{contributions_decide}
use Rattle.ulfm_run.proofs.adopted.are_same.Goals as goal

pub returns : goal.returns
returns c = rw c.is_same.ensures (contributions_decide c.args.one c.args.other)
