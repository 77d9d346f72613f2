use Rattle.ulfm_tests.proofs.Lone.{proposed_by}
use Rattle.ulfm_tests.proofs.further.agreed.Goals as goal

pub decide-requires : goal.decide-requires
decide-requires c = proposed_by (rw c.in-Some.is at c.in_ok-verdict.ensures.verdict)
