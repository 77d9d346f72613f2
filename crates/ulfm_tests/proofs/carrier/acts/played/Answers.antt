use Rattle.std.proofs.Common.{arith}
use Rattle.ulfm_tests.proofs.carrier.acts.played.Goals as goal

pub first_other-requires-clause-ready : goal.first_other-requires-clause-ready
first_other-requires-clause-ready g c k e here = let fresh = c.requires.fresh k e here in (fresh.is_ready, omega (arith, fresh.counted, c.args.ends.ok))
