use Rattle.ulfm_tests.proofs.Lone.{proposed_by}
use Rattle.ulfm_tests.proofs.board.proposal_of.Goals as goal

pub returns : goal.returns
returns c = proposed_by (rw c.in-Some.is at c.in_ok-proposal.ensures.proposal)
