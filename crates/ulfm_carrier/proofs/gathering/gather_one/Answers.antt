use Rattle.std.proofs.Common.{◌<◌, ◌++◌, [], length, map, get_or, refl, ap, sym, ◌∙◌, arith}
use Rattle.std.specs.Vec.{with_item}
use Rattle.ulfm_carrier.proofs.Common.{inlet_capacity, inlet_name, IsOpenRing, items_from, lane_pushed, lane_taken, LaneEnds, map-set_same, only_at, slice_get_within, taken_by}
use Rattle.ulfm_carrier.proofs.Places.{at_read, view_or, each_past}
use Rattle.ulfm_carrier.proofs.Rings.{inlet_names}
use Rattle.ulfm_carrier.proofs.Views.{view_looked, views_looked, pushed_at}
use Rattle.ulfm_carrier.proofs.Joined.{emptying, as_before, out_room, in_room, pair, pushed}
use Rattle.ulfm_carrier.proofs.Faces.{faces_back, face_back, keeps_faces, rings_back}
use Rattle.ulfm_carrier.proofs.Steps.{room_from, none_past, left_below}
use Rattle.ulfm_carrier.proofs.gathering.gather_one.Goals as goal

pub index_mut-inlet-requires : goal.index_mut-inlet-requires
index_mut-inlet-requires c =
    let all = c.args.ends.now.items in
    let from : c.loop-from.from < length all = omega (arith, c.loop-from-test.true, c.len-from-end.ensures, c.args.ends.now.ok) in
    let w = emptying all c.args.place _ c.loop-from.ends.items c.requires.family (omega (arith, c.requires.place, c.args.ends.now.ok)) c.index_mut-receiver.ensures.value refl refl c.loop-from.invariant.ends in
    let kept = c.loop-from.invariant.names ∙ ap (λ v. map inlet_name v.items) c.replace-ins.ensures.value in
    omega (arith, in_room w c.loop-from.from c.loop-from.ins.items from kept, c.loop-from.ins.ok)

pub index_mut-requires : goal.index_mut-requires
index_mut-requires c =
    let all = c.args.ends.now.items in
    let from : c.loop-from.from < length all = omega (arith, c.loop-from-test.true, c.len-from-end.ensures, c.args.ends.now.ok) in
    let w = emptying all c.args.place _ c.loop-from.ends.items c.requires.family (omega (arith, c.requires.place, c.args.ends.now.ok)) c.index_mut-receiver.ensures.value refl refl c.loop-from.invariant.ends in
    let sender = c.index_mut-sender.result.now in
    let here = at_read c.loop-from.ends.items c.loop-from.from (as_before w c.loop-from.from from) c.index_mut-sender.ensures.value in
    omega (arith, out_room w c.loop-from.from here, sender.outs.ok)

pub drain-requires : goal.drain-requires
drain-requires c =
    let all = c.args.ends.now.items in
    let from : c.loop-from.from < length all = omega (arith, c.loop-from-test.true, c.len-from-end.ensures, c.args.ends.now.ok) in
    let w = emptying all c.args.place _ c.loop-from.ends.items c.requires.family (omega (arith, c.requires.place, c.args.ends.now.ok)) c.index_mut-receiver.ensures.value refl refl c.loop-from.invariant.ends in
    let kept = c.loop-from.invariant.names ∙ ap (λ v. map inlet_name v.items) c.replace-ins.ensures.value in
    let sender = c.index_mut-sender.result.now in
    let here = at_read c.loop-from.ends.items c.loop-from.from (as_before w c.loop-from.from from) c.index_mut-sender.ensures.value in
    let out = at_read sender.outs.items c.args.place (out_room w c.loop-from.from here) c.index_mut.ensures.value in
    let ins = c.loop-from.ins.items in let i = c.index_mut-inlet.result.now in
    let inlet = at_read ins c.loop-from.from (in_room w c.loop-from.from ins from kept) c.index_mut-inlet.ensures.value in
    let live = c.loop-from.invariant.live c.loop-from.from i (omega arith) inlet in
    let room = room_from ins c.loop-from.from i c.loop-from.invariant.capacities inlet in
    record { pair = pair w c.loop-from.from ins here out kept inlet; live = live.1; room = omega (arith, room, c.loop-from.invariant.room) }

pub loop-from-preserved : goal.loop-from-preserved
loop-from-preserved c =
    let all = c.args.ends.now.items in
    let from : c.loop-from.from < length all = omega (arith, c.loop-from-test.true, c.len-from-end.ensures, c.args.ends.now.ok) in
    let w = emptying all c.args.place _ c.loop-from.ends.items c.requires.family (omega (arith, c.requires.place, c.args.ends.now.ok)) c.index_mut-receiver.ensures.value refl refl c.loop-from.invariant.ends in
    let kept = c.loop-from.invariant.names ∙ ap (λ v. map inlet_name v.items) c.replace-ins.ensures.value in
    let sender = c.index_mut-sender.result.now in
    let here = at_read c.loop-from.ends.items c.loop-from.from (as_before w c.loop-from.from from) c.index_mut-sender.ensures.value in
    let out = at_read sender.outs.items c.args.place (out_room w c.loop-from.from here) c.index_mut.ensures.value in
    let ins = c.loop-from.ins.items in let i = c.index_mut-inlet.result.now in
    let inlet = at_read ins c.loop-from.from (in_room w c.loop-from.from ins from kept) c.index_mut-inlet.ensures.value in
    let live = c.loop-from.invariant.live c.loop-from.from i (omega arith) inlet in
    let room = room_from ins c.loop-from.from i c.loop-from.invariant.capacities inlet in
    let j = c.drain.new.self in let rest = c.drain.ensures.left in
    let looked : LaneEnds = record sender { outs = with_item sender.outs c.args.place c.drain.new.out } in
    let had = view_or taken_by ins c.loop-from.from [] inlet in
    let before = ap (λ l. get_or l c.loop-from.from []) c.loop-from.invariant.taken in
    record {
      ends = views_looked c.loop-from.ends.items c.loop-from.from sender looked c.index_mut-sender.ensures.value
          (view_looked sender looked c.args.place c.drain.new.out refl refl refl refl c.index_mut.ensures.value c.drain.ensures.out.0 c.drain.ensures.out.1) c.loop-from.invariant.ends;
      names = inlet_names ins c.loop-from.from i j c.index_mut-inlet.ensures.value c.drain.ensures.name.0 ∙ c.loop-from.invariant.names;
      taken = map-set_same taken_by ins c.loop-from.from j i (c.drain.ensures.same.1 ∙ ap taken_by c.index_mut-inlet.ensures.value) ∙ c.loop-from.invariant.taken;
      capacities = map-set_same inlet_capacity ins c.loop-from.from j i (c.drain.ensures.name.1 ∙ ap inlet_capacity c.index_mut-inlet.ensures.value) ∙ c.loop-from.invariant.capacities;
      live = each_past IsOpenRing ins c.loop-from.from j c.loop-from.invariant.live;
      room = omega (arith, room, c.loop-from.invariant.room, c.drain.ensures.room.0, c.drain.ensures.room.1);
      left = left_below i.source c.loop-from.from live.0 c.loop-from.left.items c.drain.new.left.items rest.0 rest.2 c.loop-from.invariant.rest (λ s. pushed_at all s c.args.place) (λ s. get_or (map taken_by c.replace-ins.result.items) s [])
          (pushed w i.source here out live.0 ∙ rest.1 ∙ ap (λ l. l ++ rest.0) (sym had ∙ before)) c.loop-from.invariant.left;
      rest = none_past i.source c.loop-from.from live.0 c.loop-from.left.items c.drain.new.left.items rest.0 rest.2 c.loop-from.invariant.rest;
    }

pub returns : goal.returns
returns c =
    let all = c.args.ends.now.items in let now = c.loop-from.ends.items in
    let place : c.args.place < length all = omega (arith, c.requires.place, c.args.ends.now.ok) in
    let first = c.index_mut-receiver.result.now in
    let out : LaneEnds = record first { ins = c.replace-ins.new.dest; left = c.replace-left.new.dest } in
    let emptied = c.index_mut-receiver-2.result.now in
    let last : LaneEnds = record emptied { ins = c.loop-from.ins } in
    let start = c.replace-ins.ensures.value in
    let back = face_back first out emptied last all now c.args.place place c.loop-from.invariant.ends c.index_mut-receiver-2.ensures.value refl refl refl refl
    (c.loop-from.invariant.names ∙ ap (λ v. map inlet_name v.items) start) (c.loop-from.invariant.taken ∙ ap (λ v. map taken_by v.items) start) in record {
      same = keeps_faces all _ (faces_back all now c.args.place first out last c.index_mut-receiver.ensures.value c.loop-from.invariant.ends back);
      others = λ k e f apart there here rings. rings_back all now c.args.place k _ _ e f c.loop-from.invariant.ends apart there here rings;
      left = λ s sender receiver at_s at_place.
          let low : s < c.loop-from.from = omega (arith, slice_get_within all s sender at_s, c.loop-from-test.false, c.len-from-end.ensures, c.args.ends.now.ok) in
          let same = only_at all c.args.place receiver first at_place (at_read all c.args.place place c.index_mut-receiver.ensures.value) in
          sym (view_or (λ e. lane_pushed e c.args.place) all s [] at_s) ∙ c.loop-from.invariant.left s low
          ∙ ap (λ l. l ++ items_from s c.loop-from.left.items) (ap (λ v. get_or (map taken_by v.items) s []) start ∙ ap (λ e. lane_taken e s) same);
      no_others = λ s past. c.loop-from.invariant.rest s (omega (arith, past, c.loop-from.auto, c.len-from-end.ensures));
    }
