use Rattle.std.proofs.Common.{◌≡◌, ◌<◌, length, refl, ap, sym, ◌∙◌, arith, subst, vec_capacity, ◌+◌}
use Rattle.ulfm_carrier.proofs.Common.{at, IsOpenFrom, length-map, length_push, OneCall, shared_name, shared_pushed, shared_taken, SharedEnds}
use Rattle.ulfm_carrier.proofs.Places.{at_read, each_set, each_push, none_at}
use Rattle.ulfm_carrier.proofs.Views.{as_many}
use Rattle.ulfm_carrier.proofs.Settling.{Flows, NoOthers, kept_twice, kept_set, flowed}
use Rattle.ulfm_carrier.proofs.Opened.{opened, opened_without}
use Rattle.ulfm_carrier.proofs.Closing.{all_outs}
use Rattle.ulfm_carrier.proofs.emptying.gather_shared.Goals as goal

pub loop-place-init : goal.loop-place-init
loop-place-init g c =
    let all = c.args.ends.items in let first = c.index_mut-first.result.now in
    let without : SharedEnds = record first { lists = c.replace-inboxes.new.dest } in
    let low : 0 < length all = omega (arith, c.requires.family.some, length-map all shared_name) in
    let there = at_read all 0 low c.index_mut-first.ensures.value in
    let ready = c.requires.ready 0 first there in
    let none : length c.replace-inboxes.result.items ≡ 0 = ap (λ v. length v.items) c.replace-inboxes.ensures.value ∙ ap length ready.no_list in record {
      same = kept_set shared_name shared_pushed shared_taken all 0 first without low c.index_mut-first.ensures.value refl (λ p. refl) (λ p. refl);
      still_open = each_set (IsOpenFrom 0) all 0 without (λ j x _ h. opened j x (c.requires.ready j x h)) (opened_without 0 first c.replace-inboxes.new.dest ready);
      many = none;
      room = let n = all_outs all c.requires.family 0 there in let m = ready.list_for_each in let v = ap (λ x. vec_capacity x) c.replace-inboxes.ensures.value in omega arith;
      flows = λ d inbox here. absurd (none_at c.replace-inboxes.result.items d none here);
      no_others = λ d inbox here. absurd (none_at c.replace-inboxes.result.items d none here);
    }

pub gather_one-left-requires-clause-family : goal.gather_one-left-requires-clause-family
gather_one-left-requires-clause-family g c = subst OneCall (sym c.loop-place.invariant.same.names) c.requires.family

pub gather_one-left-requires-clause-still_open : goal.gather_one-left-requires-clause-still_open
gather_one-left-requires-clause-still_open g c = c.loop-place.invariant.still_open

pub loop-place-preserved : goal.loop-place-preserved
loop-place-preserved g c =
    let all = c.args.ends.items in let now = c.loop-place.ends.items in let place = c.loop-place.place in
    let kept = c.loop-place.invariant in let made = c.gather_one-left.ensures in let left = c.gather_one-left.result in
    let more = c.push_reserved.ensures.items in record {
      same = kept_twice shared_name shared_pushed shared_taken kept.same made.same;
      still_open = made.still_open;
      many = ap length more ∙ length_push c.loop-place.inboxes.items left ∙ ap (λ n. n + 1) kept.many;
      room = omega (arith, kept.room, c.push_reserved.ensures.capacity);
      flows = λ d inbox here.
          each_push (Flows shared_name shared_pushed shared_taken all) c.loop-place.inboxes.items left place kept.many kept.flows (flowed shared_name shared_pushed shared_taken place left kept.same made.left) d inbox (subst (λ l. at l d inbox) more here);
      no_others = λ d inbox here.
          each_push (NoOthers all) c.loop-place.inboxes.items left place kept.many kept.no_others (λ s past. made.no_others s (omega (arith, past, as_many shared_name now all kept.same.names, c.loop-place.ends.ok))) d inbox
          (subst (λ l. at l d inbox) more here);
    }
