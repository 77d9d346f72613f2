use Rattle.std.proofs.Common.{arith}
use Rattle.ulfm_carrier.proofs.Wired.{wired_next}
use Rattle.ulfm_carrier.proofs.wiring.connect.Goals as goal

pub returns-clause-wired : goal.returns-clause-wired
returns-clause-wired c = wired_next _ (omega (arith, c.loop-dest-test.false, c.loop-dest.auto, c.len-dest-end.ensures)) c.loop-dest.invariant.wired
