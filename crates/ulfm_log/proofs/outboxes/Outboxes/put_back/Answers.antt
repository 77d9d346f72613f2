use Rattle.std.proofs.Common.{ap, sym, ◌∙◌}
use Rattle.ulfm_log.proofs.Common.{Boxes, with_item_back}
use Rattle.ulfm_log.proofs.Slots.{put, read, lent_read, room_kept}
use Rattle.ulfm_log.proofs.outboxes.Outboxes.put_back.Goals as goal

pub returns-clause-boxes : goal.returns-clause-boxes
returns-clause-boxes c = put c.self.inside.slots.items c.args.dest _ (λ b. with_item_back b c.args.item) (ap (λ (v : Boxes). v.boxes) c.self.view_is) c.requires.inside c.index_mut-outbox.ensures.value c.put_back.ensures.contents

pub invariant_of-self : goal.invariant_of-self
invariant_of-self c all = room_kept c.self.inside.slots.items c.args.dest _ (ap (λ (v : Boxes). v.boxes) c.self.view_is) (c.self.invariant all) c.requires.inside c.index_mut-outbox.ensures.value c.put_back.ensures.room

pub put_back-requires-clause-out : goal.put_back-requires-clause-out
put_back-requires-clause-out c = rw (read c.self.inside.slots.items c.args.self.now.boxes c.args.dest _ (ap (λ (v : Boxes). v.boxes) c.self.view_is) c.requires.inside c.index_mut-outbox.ensures.value) c.requires.taken

pub put_back-requires-clause-lent : goal.put_back-requires-clause-lent
put_back-requires-clause-lent c = sym (lent_read c.self.inside.slots.items c.args.dest (ap (λ (v : Boxes). v.boxes) c.self.view_is) (ap (λ (v : Boxes). v.lent) c.self.view_is) c.requires.inside c.index_mut-outbox.ensures.value) ∙ c.requires.lent
