use Rattle.std.proofs.Common.{rules, ap, sym, ◌∙◌, arith}
use Rattle.ulfm_log.proofs.Common.{Boxes, false≢true}
use Rattle.ulfm_log.proofs.Slots.{room_all, contents_kept, reserving-start, reserving-step}
use Rattle.ulfm_log.proofs.outboxes.Outboxes.reserve.Goals as goal

pub loop-d-init : goal.loop-d-init
loop-d-init c = (reserving-start, c.if-self.false)

pub loop-d-preserved : goal.loop-d-preserved
loop-d-preserved c = (reserving-step c.reserve.new.self c.loop-d.invariant.0 (search rules) c.index_mut-outbox.ensures.value c.in_ok-reserve.ensures.contents c.in_ok-reserve.ensures.room, c.loop-d.invariant.1)

pub returns-in_err-reserve-clause-boxes : goal.returns-in_err-reserve-clause-boxes
returns-in_err-reserve-clause-boxes c = contents_kept c.loop-d.self-inside.slots.items c.loop-d.d c.reserve.new.self (search rules) c.index_mut-outbox.ensures.value c.in_err-reserve.ensures.contents ∙ c.loop-d.invariant.0.contents ∙ ap (λ (v : Boxes). v.boxes) c.self.view_is

pub invariant_of-self : goal.invariant_of-self
invariant_of-self c roomy = absurd (false≢true (sym c.loop-d.invariant.1 ∙ roomy))

pub invariant_of-self-2 : goal.invariant_of-self-2
invariant_of-self-2 c roomy = room_all c.loop-d.self-inside.slots.items (λ d h. c.loop-d.invariant.0.done d (omega (arith, h, c.loop-d.invariant.0.size, c.loop-d-test.false)))
