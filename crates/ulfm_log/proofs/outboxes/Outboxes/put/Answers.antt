use Rattle.std.proofs.Common.{ap, sym, ◌∙◌}
use Rattle.ulfm_log.proofs.Common.{Boxes, with_item}
use Rattle.ulfm_log.proofs.Slots.{put, within, grow_one, room_here, room_set}
use Rattle.ulfm_log.proofs.outboxes.Outboxes.put.Goals as goal

pub put-requires : goal.put-requires
put-requires c =
    let inside = within c.self.inside.slots.items c.args.self.now.boxes c.args.dest.number (ap (λ (v : Boxes). v.boxes) c.self.view_is) c.requires.inside in
    room_here c.self.inside.slots.items c.args.dest.number (c.self.invariant (ap (λ (v : Boxes). v.room) c.self.view_is ∙ c.requires.room)) inside c.index_mut-outbox.ensures.value

pub invariant_of-self : goal.invariant_of-self
invariant_of-self c roomy = room_set c.self.inside.slots.items c.args.dest.number c.put.new.self (c.self.invariant (ap (λ (v : Boxes). v.room) c.self.view_is ∙ c.requires.room)) (sym c.has_room-self-inside.ensures ∙ roomy)

pub returns : goal.returns
returns c =
    let after = put c.self.inside.slots.items c.args.dest.number c.put.new.self (λ b. with_item b c.args.item) (ap (λ (v : Boxes). v.boxes) c.self.view_is) c.requires.inside c.index_mut-outbox.ensures.value c.put.ensures in
    rw after (grow_one c.args.self.now.boxes c.args.dest.number c.args.item c.requires.inside)
