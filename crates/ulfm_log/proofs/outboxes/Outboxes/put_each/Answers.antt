use Rattle.std.proofs.Common.{rules, ap, sym, ◌∙◌, arith}
use Rattle.ulfm_log.proofs.Common.{Boxes, with_item}
use Rattle.ulfm_log.proofs.Slots.{leaving-start, leaving-room, leaving-passed, leaving-step, leaving-end}
use Rattle.ulfm_log.proofs.outboxes.Outboxes.put_each.Goals as goal

pub loop-d-init : goal.loop-d-init
loop-d-init c = leaving-start

pub put-requires : goal.put-requires
put-requires c = leaving-room c.loop-d.invariant (c.self.invariant (ap (λ (v : Boxes). v.room) c.self.view_is ∙ c.requires.room)) (search rules) c.index_mut-outbox.ensures.value

pub loop-d-preserved : goal.loop-d-preserved
loop-d-preserved c = leaving-step c.put.new.self c.loop-d.invariant (sym c.contains.ensures ∙ c.if-not-contains.false) (search rules) c.index_mut-outbox.ensures.value (c.put.ensures ∙ ap (with_item c.index_mut-outbox.result.now.contents) c.item.ensures)

pub returns : goal.returns
returns c = leaving-end (ap (λ (v : Boxes). v.boxes) c.self.view_is) c.loop-d.invariant (omega (arith, c.loop-d-test.false))

pub loop-d-preserved-then-not-contains : goal.loop-d-preserved-then-not-contains
loop-d-preserved-then-not-contains c = leaving-passed c.loop-d.invariant (sym c.contains.ensures ∙ c.if-not-contains.true)
