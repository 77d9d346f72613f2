use Rattle.std.proofs.Common.{◌≡◌, ◌<◌, ◌+◌, ◌++◌, length, set, refl, ap, sym, ◌∙◌, arith, subst, length-set}
use Rattle.ulfm_carrier.proofs.Common.{at, items_from, only_at, shared_pushed, shared_taken, SharedEnds, slice_get_within, view}
use Rattle.ulfm_carrier.proofs.Places.{at_read, view_or}
use Rattle.ulfm_carrier.proofs.Frames.{as_many_outs}
use Rattle.ulfm_carrier.proofs.Heard.{Hears, AllHear, none_heard, closes_more, hears_more}
use Rattle.ulfm_carrier.proofs.Told.{telling, told_at, told_of_all}
use Rattle.ulfm_carrier.proofs.Closing.{all_outs, number, still_passes, outs_there, may_close, may_hear, receipt_queue, receipt_pushed}
use Rattle.ulfm_carrier.proofs.Done.{AllDone, all_done, keeps_done, taken_told}
use Rattle.ulfm_carrier.proofs.emptying.gather_one.Given.{Over}
use Rattle.ulfm_carrier.proofs.emptying.gather_one.Goals.{After-index_mut-sender, After-index_mut-receiver, After-index_mut-receiver-2}
use Rattle.ulfm_carrier.proofs.emptying.gather_one.Goals as goal

pub loop-from-init : goal.loop-from-init
loop-from-init g c = record {
  many = refl;
  heard = none_heard c.args.ends.now.items c.args.place (λ e here. ((c.requires.still_open c.args.place e here).receiver (omega arith)).receipts);
}

-- what the sender has heard
sender_hears : (g : Over) (c : After-index_mut-sender g) → (e : SharedEnds) × at c.args.ends.now.items c.loop-from.from e × Hears c.args.ends.now.items c.args.place c.loop-from.from c.loop-from.from c.loop-from.from e c.index_mut-sender.result.now
sender_hears g c =
    let low : c.loop-from.from < length c.loop-from.ends.items = omega (arith, c.loop-from-test.true, c.len-from-end.ensures, c.args.ends.now.ok, c.loop-from.invariant.many) in
    c.loop-from.invariant.heard c.loop-from.from c.index_mut-sender.result.now (at_read c.loop-from.ends.items c.loop-from.from low c.index_mut-sender.ensures.value)

pub close_to-receipt-requires : goal.close_to-receipt-requires
close_to-receipt-requires g c =
    let place : c.args.place < length c.args.ends.now.items = omega (arith, c.requires.place, c.args.ends.now.ok) in
    let old = sender_hears g c in
    let there = outs_there old.1 old.2 c.requires.family place in
    record { passes = still_passes old.1 old.2 c.requires.still_open; dest = omega (arith, there, c.index_mut-sender.result.now.outs.ok); sender = may_close old.1 old.2 c.requires.still_open (omega arith) }

-- what all ends have heard once the sender closed, and what the receiver has
closed : (g : Over) (c : After-index_mut-receiver g) → AllHear c.args.ends.now.items c.args.place (c.loop-from.from + 1) c.loop-from.from (set c.loop-from.ends.items c.loop-from.from c.close_to-receipt.new.self)
closed g c =
    let now = c.loop-from.ends.items in let done = c.close_to-receipt.ensures in
    let low : c.loop-from.from < length now = omega (arith, c.loop-from-test.true, c.len-from-end.ensures, c.args.ends.now.ok, c.loop-from.invariant.many) in
    closes_more c.args.ends.now.items now c.args.place c.loop-from.from low c.index_mut-sender.ensures.value done.rest done.names done.pushed done.others c.loop-from.invariant.heard

within : (g : Over) (c : After-index_mut-receiver g) → c.args.place < length (set c.loop-from.ends.items c.loop-from.from c.close_to-receipt.new.self)
within g c = omega (arith, c.requires.place, c.args.ends.now.ok, c.loop-from.invariant.many, length-set c.loop-from.ends.items c.loop-from.from c.close_to-receipt.new.self)

pub hear-requires : goal.hear-requires
hear-requires g c =
    let place : c.args.place < length c.args.ends.now.items = omega (arith, c.requires.place, c.args.ends.now.ok) in
    let done = c.close_to-receipt.ensures in let r = c.index_mut-receiver.result.now in
    let was = sender_hears g (goal.at.hear-requires g c).After-index_mut-sender in
    let old = closed g c c.args.place r (at_read (set c.loop-from.ends.items c.loop-from.from c.close_to-receipt.new.self) c.args.place (within g c) c.index_mut-receiver.ensures.value) in
    let q = receipt_queue was.1 was.2 c.requires.family place old.0 r c.close_to-receipt.result (omega arith) old.1 old.2.pass.0 done.queue in
    record { passes = still_passes old.1 old.2 c.requires.still_open; receiver = may_hear old.1 old.2 c.requires.still_open; receipt = (q.0, q.1, done.receipt.0) }

pub loop-from-preserved : goal.loop-from-preserved
loop-from-preserved g c =
    let all = c.args.ends.now.items in let now = c.loop-from.ends.items in let from = c.loop-from.from in
    let done = c.close_to-receipt.ensures in let s' = c.close_to-receipt.new.self in
    let there = goal.at.loop-from-preserved g c in let was = sender_hears g there.After-index_mut-sender in
    let is_from = done.receipt.1 ∙ ap (λ n. n.number) was.2.frame.me ∙ number all c.requires.family from was.1 in record {
      many = length-set (set now from s') c.args.place c.hear.new.self ∙ length-set now from s' ∙ c.loop-from.invariant.many;
      heard = hears_more all (set now from s') c.args.place from (view c.close_to-receipt.result) (within g there.After-index_mut-receiver) c.index_mut-receiver.ensures.value
          c.hear.ensures.rest c.hear.ensures.inlet c.hear.ensures.receipts is_from (done.receipt.2 ∙ receipt_pushed was.1 was.2) (closed g there.After-index_mut-receiver);
    }

-- what the receiver has heard in the end
all_heard : (g : Over) (c : After-index_mut-receiver-2 g) → (e : SharedEnds) × at c.args.ends.now.items c.args.place e × Hears c.args.ends.now.items c.args.place c.loop-from.from c.loop-from.from c.args.place e c.index_mut-receiver-2.result.now
all_heard g c =
    let low : c.args.place < length c.loop-from.ends.items = omega (arith, c.requires.place, c.args.ends.now.ok, c.loop-from.invariant.many) in
    c.loop-from.invariant.heard c.args.place c.index_mut-receiver-2.result.now (at_read c.loop-from.ends.items c.args.place low c.index_mut-receiver-2.ensures.value)

pub empty-requires : goal.empty-requires
empty-requires g c =
    let all = c.args.ends.now.items in let old = all_heard g c in
    let last : length all ≡ c.loop-from.from = omega (arith, c.loop-from-test.false, c.loop-from.auto, c.len-from-end.ensures, c.args.ends.now.ok) in
    let made = ((c.requires.still_open c.args.place old.0 old.1).receiver (omega arith)).receiver.made in record {
      passes = still_passes old.1 old.2 c.requires.still_open;
      receiver = may_hear old.1 old.2 c.requires.still_open;
      receipts = told_of_all all c.args.place (view old.0.inlet) (old.2.receipts refl) (made ∙ all_outs all c.requires.family c.args.place old.1 ∙ last);
    }

pub returns : goal.returns
returns g c =
    let all = c.args.ends.now.items in let now = c.loop-from.ends.items in let n = c.loop-from.from in
    let place = c.args.place in let r = c.index_mut-receiver-2.result.now in let left = c.empty.ensures in
    let old = all_heard g (goal.at.returns g c).After-index_mut-receiver-2 in
    let low : place < length now = omega (arith, c.requires.place, c.args.ends.now.ok, c.loop-from.invariant.many) in
    let done : AllDone all place (set now place c.empty.new.self) = all_done all place n c.requires.still_open now r c.empty.new.self low c.index_mut-receiver-2.ensures.value c.loop-from.invariant.heard left.rest.0 (ap (λ v. v.items) left.rest.1) left.rest.2 left.inlet left.taken in record {
      same = keeps_done all (set now place c.empty.new.self) (length-set now place c.empty.new.self ∙ c.loop-from.invariant.many) done;
      still_open = λ k x here. (done k x here).2.later;
      left = λ s sender receiver at_s at_place.
          let inside : s < n = omega (arith, slice_get_within all s sender at_s, c.loop-from-test.false, c.len-from-end.ensures, c.args.ends.now.ok) in
          let receipts = subst (λ l. at l s (telling all place s)) (sym (ap (λ v. v.receipts) (old.2.receipts refl))) (told_at all place n s inside) in
          let is = only_at all place receiver old.0 at_place old.1 in
          sym (view_or (λ x. shared_pushed x place) all s _ at_s) ∙ left.left s (telling all place s) receipts ∙ ap (λ l. l ++ items_from s c.empty.result.items) (taken_told old.2 s ∙ ap (λ x. shared_taken x s) is);
      no_others = λ s past. left.no_others s (omega (arith, past, as_many_outs old.0 r old.2.names, all_outs all c.requires.family place old.1, r.outs.ok, c.args.ends.now.ok));
    }
