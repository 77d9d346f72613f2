use Rattle.std.proofs.Common.{arith}
use Rattle.ulfm_log.proofs.communicators.Communicators.adopt.Goals as goal

pub unreachable-requires : goal.unreachable-requires
unreachable-requires c =
    let fits = c.args.decision.now.lawful.has_shrink c.in-Shrink.round c.in-Shrink.is in
    omega (arith, fits, c.in-None.ensures)
