use Rattle.std.proofs.Common.{sym}
use Rattle.ulfm_rank.proofs.Joining.{joined-start}
use Rattle.ulfm_c.proofs.process.Process.start.Goals as goal

pub invariant_of-result : goal.invariant_of-result
invariant_of-result c =
    let fresh = c.requires.fresh in
    joined-start c.in_ok-rank.rank.state c.in_ok-rank.ensures.started c.me.ensures.sound fresh.is_ready (sym c.me-me.ensures) fresh.counted fresh.nothing_pushed fresh.nothing_taken
