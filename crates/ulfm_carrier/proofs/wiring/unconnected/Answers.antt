use Rattle.std.proofs.Common.{◌≡◌, ◌≤◌, ◌+◌, ◌*◌, vec_capacity, [], length, refl, ap, ◌∙◌, arith, subst}
use Rattle.ulfm_carrier.proofs.Common.{at, IsWired, LaneEnds, length_push}
use Rattle.ulfm_carrier.proofs.Places.{each_push, none_at}
use Rattle.ulfm_carrier.proofs.wiring.unconnected.Goals as goal

pub loop-number-preserved : goal.loop-number-preserved
loop-number-preserved c =
    let outs = c.in_ok-with_capacity.ensures in let ins = c.in_ok-with_capacity-2.ensures in
    let left = c.in_ok-with_capacity-3.ensures in let inboxes = c.in_ok-with_capacity-4.ensures in
    let room : c.args.n * c.args.capacity ≤ vec_capacity c.in_ok-with_capacity-3.field-0 = omega (arith, left.exact) in
    let places : c.args.n ≤ vec_capacity c.in_ok-with_capacity-4.field-0 = omega (arith, inboxes.exact) in
    let more = c.in_ok-push.ensures.items in
    let kept = c.loop-number.invariant in record {
      many = ap length more ∙ length_push c.loop-number.ends.items _ ∙ ap (λ m. m + 1) kept.many;
      each = λ k e here.
          each_push (IsWired c.args.n c.args.capacity 0 0) c.loop-number.ends.items _ c.loop-number.number kept.many kept.each
          (record {
            number = refl;
            first = refl;
            outs_below = λ below. absurd (omega (arith, below));
            outs_here = λ _. ap length outs.items;
            outs_above = λ _. outs.items;
            ins_below = λ below. absurd (omega (arith, below));
            ins_above = λ _. ap length ins.items;
            new_outs = λ j p there. absurd (none_at _ j (ap length outs.items) there);
            new_ins = λ j i there. absurd (none_at _ j (ap length ins.items) there);
            nothing_left = left.items;
            room = room;
            no_inbox = inboxes.items;
            inbox_for_each = places;
          }) k e (subst (λ l. at l k e) more here);
      alone = λ k e here.
          each_push (λ _ (x : LaneEnds). (x.outs.items ≡ []) × (x.ins.items ≡ [])) c.loop-number.ends.items _ c.loop-number.number kept.many kept.alone (outs.items, ins.items) k e (subst (λ l. at l k e) more here);
    }
