use Rattle.std.proofs.Common.{◌↔◌, List, IsTrue, subst}
use Rattle.ulfm_report_laws.specs.Flow.{AreWithin}
use Rattle.ulfm_report_laws.specs.Room.{HaveRoom}
use Rattle.ulfm_run.proofs.Common.{contents, Global, Item, Report, Vec, WorldRank}
use Rattle.ulfm_run.proofs.room.fits.Goals as goal

pub returns-then-are_within : goal.returns-then-are_within
returns-then-are_within g c =
    let order = subst (λ (rs : List Report). IsTrue c.have_order.result ↔ HaveRoom rs c.args.capacity) c.deref-then-are_within.ensures.value c.have_order.ensures in
    let within = subst (λ (boxes : List (Vec (WorldRank × Item) Global)). AreWithin (contents boxes) c.args.capacity) c.deref.ensures.value (c.are_within.ensures.0 c.if-are_within.true) in
    (λ found. (order.0 found, within), λ both. order.1 both.0)
