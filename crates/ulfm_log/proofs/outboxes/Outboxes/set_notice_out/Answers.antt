use Rattle.std.proofs.Common.{ap}
use Rattle.ulfm_log.proofs.Common.{Boxes, with_notice_out}
use Rattle.ulfm_log.proofs.Slots.{put, room_kept}
use Rattle.ulfm_log.proofs.outboxes.Outboxes.set_notice_out.Goals as goal

pub returns-clause-boxes : goal.returns-clause-boxes
returns-clause-boxes c = put c.self.inside.slots.items c.args.dest _ (λ b. with_notice_out b c.args.notice_out) (ap (λ (v : Boxes). v.boxes) c.self.view_is) c.requires c.index_mut-outbox.ensures.value c.set_notice_out.ensures.contents

pub invariant_of-self : goal.invariant_of-self
invariant_of-self c all = room_kept c.self.inside.slots.items c.args.dest _ (ap (λ (v : Boxes). v.boxes) c.self.view_is) (c.self.invariant all) c.requires c.index_mut-outbox.ensures.value c.set_notice_out.ensures.room
