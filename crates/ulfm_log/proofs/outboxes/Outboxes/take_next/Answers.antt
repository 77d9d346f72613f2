use Rattle.std.proofs.Common.{ap, ◌∙◌}
use Rattle.ulfm_log.proofs.Common.{IfSome_then, Boxes, with_first_out}
use Rattle.ulfm_log.proofs.Slots.{put, read, lent_now, room_kept}
use Rattle.ulfm_log.proofs.outboxes.Outboxes.take_next.Goals as goal

pub returns-clause-taken : goal.returns-clause-taken
returns-clause-taken c = IfSome_then c.take_next.result c.take_next.ensures.taken (λ item change. put c.self.inside.slots.items c.args.dest _ with_first_out (ap (λ (v : Boxes). v.boxes) c.self.view_is) c.requires.inside c.index_mut-outbox.ensures.value change)

pub invariant_of-self : goal.invariant_of-self
invariant_of-self c all = room_kept c.self.inside.slots.items c.args.dest _ (ap (λ (v : Boxes). v.boxes) c.self.view_is) (c.self.invariant all) c.requires.inside c.index_mut-outbox.ensures.value c.take_next.ensures.room

pub take_next-requires : goal.take_next-requires
take_next-requires c = rw (read c.self.inside.slots.items c.args.self.now.boxes c.args.dest _ (ap (λ (v : Boxes). v.boxes) c.self.view_is) c.requires.inside c.index_mut-outbox.ensures.value) c.requires.countable

pub returns-clause-lent : goal.returns-clause-lent
returns-clause-lent c = IfSome_then c.take_next.result c.take_next.ensures.lent (λ item there. lent_now c.self.inside.slots.items c.args.dest c.take_next.new.self (ap (λ (v : Boxes). v.boxes) c.self.view_is) c.requires.inside ∙ there)
