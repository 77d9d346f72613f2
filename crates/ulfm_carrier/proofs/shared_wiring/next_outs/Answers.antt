use Rattle.std.proofs.Common.{◌<◌, ◌+◌, length, refl, ap, sym, ◌∙◌, arith, subst}
use Rattle.ulfm_carrier.proofs.Common.{AreNextOuts, length-set, length_push, slice_get_within}
use Rattle.ulfm_carrier.proofs.Places.{at_read, none_at}
use Rattle.ulfm_carrier.proofs.SharedWires.{made_next, waiting_next, outs_next}
use Rattle.ulfm_carrier.proofs.shared_wiring.next_outs.Goals as goal

pub loop-dest-init : goal.loop-dest-init
loop-dest-init c =
    let none = ap length c.in_ok-outs.ensures.items in record {
      many = refl;
      as_many = none;
      made = λ j p q low. absurd (omega (arith, low));
      waiting = λ j late. refl;
      outs = λ j i a o at_i at_a here. absurd (none_at c.in_ok-outs.outs.items j none here);
    }

pub next_sender-out-requires : goal.next_sender-out-requires
next_sender-out-requires c =
    let kept = c.loop-dest.invariant in let boxes = c.args.inboxes.now.items in let now = c.loop-dest.inlets.items in
    let dest = c.loop-dest.dest in
    let low : dest < length boxes = omega (arith, c.loop-dest-test.true, c.len-dest-end.ensures, c.args.inboxes.now.ok) in
    let inside : dest < length now = omega (arith, low, kept.many, c.requires.len) in
    let at_now = at_read now dest inside c.index_mut.ensures.value in
    let at_box = at_read boxes dest low c.index.ensures in
    c.requires.inlets dest c.index.result.now c.index_mut.result.now at_box (sym (kept.waiting dest (omega arith)) ∙ at_now)

pub loop-dest-preserved : goal.loop-dest-preserved
loop-dest-preserved c =
    let kept = c.loop-dest.invariant in let boxes = c.args.inboxes.now.items in let start = c.args.inlets.now.items in
    let now = c.loop-dest.inlets.items in let outs = c.loop-dest.outs.items in let dest = c.loop-dest.dest in
    let i = c.index.result.now in let p = c.index_mut.result.now in let q = c.next_sender-out.new.inlet in
    let out = c.next_sender-out.result in let made = c.next_sender-out.ensures in
    let more = c.in_ok-push.ensures.items in
    let low : dest < length boxes = omega (arith, c.loop-dest-test.true, c.len-dest-end.ensures, c.args.inboxes.now.ok) in
    let inside : dest < length now = omega (arith, low, kept.many, c.requires.len) in
    let at_now = at_read now dest inside c.index_mut.ensures.value in
    let at_box = at_read boxes dest low c.index.ensures in
    let N = AreNextOuts boxes start in record {
      many = length-set now dest q ∙ kept.many;
      as_many = ap length more ∙ length_push outs out ∙ ap (λ n. n + 1) kept.as_many;
      made = made_next boxes start now outs dest i p q out kept.many kept.as_many kept.waiting at_box at_now made.inlet.0 made.inlet.1 made.out.0 made.out.1 kept.made;
      waiting = waiting_next boxes start now outs dest i p q out kept.many kept.as_many kept.waiting at_box at_now made.inlet.0 made.inlet.1 made.out.0 made.out.1;
      outs = subst N (sym more) (outs_next boxes start now outs dest i p q out kept.many kept.as_many kept.waiting at_box at_now made.inlet.0 made.inlet.1 made.out.0 made.out.1 kept.outs);
    }

pub returns-clause-inlets : goal.returns-clause-inlets
returns-clause-inlets c = λ j p q at_p at_q.
    c.loop-dest.invariant.made j p q (omega (arith, slice_get_within c.args.inlets.now.items j p at_p, c.requires.len, c.loop-dest-test.false, c.len-dest-end.ensures, c.args.inboxes.now.ok)) at_p at_q

pub returns-clause-outs : goal.returns-clause-outs
returns-clause-outs c = (
  omega (arith, c.loop-dest.invariant.as_many, c.loop-dest-test.false, c.loop-dest.auto, c.len-dest-end.ensures, c.args.inboxes.now.ok),
  c.loop-dest.invariant.outs,
)
