use Rattle.std.proofs.Common.{◌≡◌, ◌<◌, ◌≤◌, ◌++◌, length, map, refl, ap, sym, ◌∙◌, arith, subst, vec_capacity}
use Rattle.std.specs.Vec.Iter.{into_iter_items}
use Rattle.ulfm_carrier.proofs.Common.{arc_value, at, length-set, length_push, AreOuts, IsMade}
use Rattle.ulfm_carrier.proofs.Places.{at_read, at_other, each_push, none_at}
use Rattle.ulfm_carrier.proofs.SharedWires.{inlet_next, inlets_next}
use Rattle.ulfm_carrier.proofs.shared_wiring.wired.Goals as goal

pub loop-inlet-init : goal.loop-inlet-init
loop-inlet-init c =
    let items = c.into_iter-inlet-iterator.ensures.into_iter_gives in
    let none = c.in_ok-ends.ensures.items in record {
      inlets = ap (λ l. map (λ e. e.inlet) l ++ into_iter_items c.into_iter-inlet-iterator.result) none ∙ items.0;
      count = omega (arith, ap length none, items.1, c.args.inlets.ok);
      many = c.requires.rows.0;
      waiting = λ j late. refl;
      each = λ k e here. absurd (none_at c.in_ok-ends.ends.items k (ap length none) here);
    }

pub index_mut-requires : goal.index_mut-requires
index_mut-requires c =
    let kept = c.loop-inlet.invariant in
    let next = inlet_next c.loop-inlet.ends.items kept.inlets c.in-Some.ensures.steps.0 in
    omega (arith, next.0, kept.many, c.len-place.ensures, c.loop-inlet.ends.ok, c.loop-inlet.rows.ok)

pub overflow_cast-place : goal.overflow_cast-place
overflow_cast-place c =
    let kept = c.loop-inlet.invariant in
    let next = inlet_next c.loop-inlet.ends.items kept.inlets c.in-Some.ensures.steps.0 in
    omega (arith, next.0, c.requires.few, c.len-place.ensures, c.loop-inlet.ends.ok)

pub invariant_of-push : goal.invariant_of-push
invariant_of-push c =
    let kept = c.loop-inlet.invariant in
    let next = inlet_next c.loop-inlet.ends.items kept.inlets c.in-Some.ensures.steps.0 in
    omega (arith, next.0, c.requires.few, c.len-place.ensures, c.loop-inlet.ends.ok)

pub loop-inlet-preserved : goal.loop-inlet-preserved
loop-inlet-preserved c =
    let kept = c.loop-inlet.invariant in let ends = c.loop-inlet.ends.items in let rows = c.loop-inlet.rows.items in
    let all = c.args.inlets.items in let boxes = (arc_value c.args.inboxes.now).items in let inlet = c.in-Some.inlet in
    let left = into_iter_items c.loop-inlet.inlet-iterator in let left' = into_iter_items c.next.new.self in
    let next = inlet_next ends kept.inlets c.in-Some.ensures.steps.0 in
    let place : c.len-place.result ≡ length ends = omega (arith, c.len-place.ensures, c.loop-inlet.ends.ok) in
    let more = c.in_ok-push.ensures.items in let lefts = c.in_ok-with_capacity.ensures in
    let lists = c.in_ok-with_capacity-2.ensures in
    let room : c.args.capacity ≤ vec_capacity c.in_ok-with_capacity.field-0 = omega (arith, lefts.exact) in
    let places : length all ≤ vec_capacity c.in_ok-with_capacity-2.field-0 = omega (arith, lists.exact, c.len-count.ensures, c.args.inlets.ok) in
    let longer = ap length more ∙ length_push ends _ in
    let row = c.index_mut.result.now in
    let low : c.len-place.result < length rows = omega (arith, next.0, kept.many, place) in
    let at_row = at_read rows c.len-place.result low c.index_mut.ensures.value in
    let at_old = sym (kept.waiting c.len-place.result (omega (arith, place))) ∙ at_row in
    let outs = c.requires.rows.1 (length ends) row (subst (λ k. at c.args.rows.now.items k row) place at_old) in
    let mine = ap (λ v. v.items) c.replace-outs.ensures.value in
    let O = AreOuts (length ends) boxes in
    let P = IsMade (length all) c.args.capacity boxes in
    record {
      inlets = inlets_next ends _ left' kept.inlets c.in-Some.ensures.steps.0 more refl;
      count = omega (arith, longer, kept.count, c.in-Some.ensures.steps.1);
      many = length-set rows c.len-place.result c.replace-outs.new.dest ∙ kept.many;
      waiting = λ j late. at_other rows c.len-place.result j c.replace-outs.new.dest (λ e. absurd (omega (arith, e, late, longer, place))) ∙ kept.waiting j (omega (arith, late, longer));
      each = λ k e here.
          each_push P ends _ (length ends) refl kept.each
          (record {
            number = place;
            same_inboxes = ap (λ v. v.items) c.in_ok-try_clone.ensures;
            outs = subst O (sym mine) outs;
            inlet = λ inbox at_k. c.requires.inlets (length ends) inbox inlet at_k next.1;
            live = refl;
            empty = lefts.items;
            room = room;
            no_list = lists.items;
            list_for_each = places;
          }) k e (subst (λ l. at l k e) more here);
    }

pub returns-clause-made : goal.returns-clause-made
returns-clause-made c = record {
  as_many = omega (arith, c.loop-inlet.invariant.count, c.in-None.ensures.steps.0);
  each = c.loop-inlet.invariant.each;
}
