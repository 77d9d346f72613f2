use Rattle.std.proofs.Common.{None, Some, refl, rules}
use Rattle.ulfm_world.proofs.Senders.{found-as, removed-first}
use Rattle.ulfm_world.proofs.inbox.Inbox.take_first_from.Goals as goal

pub returns : goal.returns
returns c = rw (← c.self.view_is) (removed-first c.args.s c.in_ok-place.place _ c.self.inside.items.items c.remove.new.self.items c.remove.result (rw (← c.self.view_is) at (found-as c.args.s c.args.self.now (Some c.in_ok-place.place) c.in_ok-place.ensures)) (search rules) c.remove.ensures.succeeds c.remove.ensures.items)

pub returns-in_err-place : goal.returns-in_err-place
returns-in_err-place c = rw c.from_residual.ensures (found-as c.args.s c.args.self.now None c.in_err-place.ensures, refl)
