use Rattle.std.proofs.Common.{refl}
use Rattle.ulfm_script.proofs.Proposals.{proposed_by}
use Rattle.ulfm_script.proofs.joint.proposal.Goals as goal

pub returns-in-Shrink-clause-proposed : goal.returns-in-Shrink-clause-proposed
returns-in-Shrink-clause-proposed c = rw c.in-Shrink.is (proposed_by c.args.rank.now.state _ _ c.shrink_proposal.result refl c.shrink_proposal.ensures.proposed)

pub returns-in-Agree-clause-proposed : goal.returns-in-Agree-clause-proposed
returns-in-Agree-clause-proposed c = rw c.in-Agree.is (proposed_by c.args.rank.now.state _ _ c.verdict.result refl c.verdict.ensures.proposed)
