use Rattle.std.proofs.Common.{◌≡◌, ◌<◌, length, refl, ap, ◌∙◌, arith, subst, vec_capacity, ◌+◌}
use Rattle.ulfm_carrier.proofs.Common.{at, HasRings, lane_name, lane_pushed, lane_taken, LaneEnds, length-map, length_push, map-set_same, slice_get_within, there}
use Rattle.ulfm_carrier.proofs.Places.{at_read, still_each, each_push, none_at}
use Rattle.ulfm_carrier.proofs.Settling.{Flows, NoOthers, kept_twice, flowed}
use Rattle.ulfm_carrier.proofs.Views.{view, of_views, as_many}
use Rattle.ulfm_carrier.proofs.Faces.{face_of, keeps_faces, rings_view}
use Rattle.ulfm_carrier.proofs.Joined.{all_outs}
use Rattle.ulfm_carrier.proofs.gathering.gather_all.Goals as goal

pub loop-place-init : goal.loop-place-init
loop-place-init c =
    let all = c.args.ends.items in let first = c.index_mut-first.result.now in
    let without : LaneEnds = record first { inboxes = c.replace-inboxes.new.dest } in
    let low : 0 < length all = omega (arith, c.requires.family.some, length-map all lane_name) in
    let here = at_read all 0 low c.index_mut-first.ensures.value in
    let ready = c.requires.ready 0 first here in
    let none : length c.replace-inboxes.result.items ≡ 0 = ap (λ v. length v.items) c.replace-inboxes.ensures.value ∙ ap length ready.no_inbox in record {
      same = keeps_faces all _ (of_views face_of _ all (map-set_same view all 0 without first (ap view c.index_mut-first.ensures.value)));
      rings = λ k e _ here. still_each HasRings all 0 without (rings_view first without refl ready.rings) (λ j x h. (c.requires.ready j x h).rings) k e here;
      many = none;
      room = let n = all_outs all c.requires.family 0 here in let m = ready.inbox_for_each in let v = ap (λ x. vec_capacity x) c.replace-inboxes.ensures.value in omega arith;
      flows = λ d inbox here. absurd (none_at c.replace-inboxes.result.items d none here);
      no_others = λ d inbox here. absurd (none_at c.replace-inboxes.result.items d none here);
    }

pub loop-place-preserved : goal.loop-place-preserved
loop-place-preserved c =
    let all = c.args.ends.items in let now = c.loop-place.ends.items in let later = c.gather_one-left.new.ends.items in
    let place = c.loop-place.place in let kept = c.loop-place.invariant in let made = c.gather_one-left.ensures in
    let left = c.gather_one-left.result in
    let more = c.push_reserved.ensures.items in record {
      same = kept_twice lane_name lane_pushed lane_taken kept.same made.same;
      rings = λ k f past here.
          let e = there now k (omega (arith, as_many lane_name later now made.same.names, slice_get_within later k f here)) in
          made.others k e.0 f (λ same. absurd (omega arith)) e.1 here (kept.rings k e.0 (omega arith) e.1);
      many = ap length more ∙ length_push c.loop-place.inboxes.items left ∙ ap (λ n. n + 1) kept.many;
      room = omega (arith, kept.room, c.push_reserved.ensures.capacity);
      flows = λ d inbox here.
          each_push (Flows lane_name lane_pushed lane_taken all) c.loop-place.inboxes.items left place kept.many kept.flows (flowed lane_name lane_pushed lane_taken place left kept.same made.left) d inbox (subst (λ l. at l d inbox) more here);
      no_others = λ d inbox here.
          each_push (NoOthers all) c.loop-place.inboxes.items left place kept.many kept.no_others
          (λ s past. made.no_others s (omega (arith, as_many lane_name now all kept.same.names, c.loop-place.ends.ok))) d inbox (subst (λ l. at l d inbox) more here);
    }
