use Rattle.ulfm_world.proofs.Senders.{found-as, has-from}
use Rattle.ulfm_world.proofs.inbox.Inbox.has_from.Goals as goal

pub returns : goal.returns
returns c = rw c.is_some.ensures (has-from c.args.s c.args.self.now c.place_of.result (found-as c.args.s c.args.self.now c.place_of.result c.place_of.ensures))
