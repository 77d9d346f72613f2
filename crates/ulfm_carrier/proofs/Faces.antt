-- What contracts see of ends, once one of them has its rings back.
use Rattle.std.proofs.Common.{◌≡◌, ◌≢◌, ◌<◌, ℕ, List, [], length, map, set, get_or, sum, vec_capacity, ap, sym, ◌∙◌, arith, subst}
use Rattle.std.proofs.lemmas.List.{length-map, map-set, set-set, set-get_or, length-set}
use Rattle.ulfm_carrier.proofs.Common.{at, HasRings, inlet_capacity, inlet_name, Item, item_from, Keeps, lane_name, lane_pushed, lane_taken, LaneEnds, map-map, outlet_name, sent, taken_by, LaneName}
use Rattle.ulfm_carrier.proofs.Places.{at_read, at_here, at_other}
use Rattle.ulfm_carrier.proofs.Views.{EndView, view, of_views, same_at, as_many}

-- what contracts see of a view
pub record Face : Type 0 where
  pub name : LaneName
  pub pushed : List (List Item)
  pub taken : List (List Item)

abbrev pub face_of : EndView → Face
face_of v = record { name = record { place = v.me.number; outs = v.outs; ins = map inlet_name v.ins.items }; pushed = map (map (item_from v.me)) v.sents; taken = map taken_by v.ins.items }

abbrev pub face : LaneEnds → Face
face e = face_of (view e)

pub face-pushed : (e : LaneEnds) (d : ℕ) → lane_pushed e d ≡ get_or (face e).pushed d []
face-pushed e d = ap (λ l. get_or l d []) (sym (map-map (map (item_from e.me)) sent e.outs.items))

-- one end gets back what was taken out of it
pub faces_back : (ends now : List LaneEnds) (k : ℕ) (e out f : LaneEnds) → e ≡ get_or ends k e → map view now ≡ map view (set ends k out) → face f ≡ face e → map face (set now k f) ≡ map face ends
faces_back ends now k e out f here same back =
    map-set face now k f ∙ ap (λ l. set l k (face f)) (of_views face_of now (set ends k out) same) ∙ ap (λ x. set (map face (set ends k out)) k x) back ∙ sym (map-set face (set ends k out) k e)
    ∙ ap (map face) (set-set ends k out e ∙ ap (set ends k) here ∙ set-get_or ends k e)

-- an end gets back what was taken out of it: contracts see it as before
pub face_back : (e out emptied last : LaneEnds) (ends now : List LaneEnds) (k : ℕ) → k < length ends → map view now ≡ map view (set ends k out) → emptied ≡ get_or now k emptied → out.me ≡ e.me → out.outs ≡ e.outs → last.me ≡ emptied.me → last.outs ≡ emptied.outs
    → map inlet_name last.ins.items ≡ map inlet_name e.ins.items → map taken_by last.ins.items ≡ map taken_by e.ins.items → face last ≡ face e
face_back e out emptied last ends now k low same here me outs me' outs' names taken =
    let low' : k < length now = omega (arith, as_many view now (set ends k out) same, length-set ends k out) in
    let v = same_at view now (set ends k out) k same (at_read now k low' here) (at_here ends k out low) in
    let is_me = me' ∙ ap (λ w. w.me) v ∙ me in
    let is_outs = ap (λ l. map outlet_name l.items) outs' ∙ ap (λ w. w.outs) v ∙ ap (λ l. map outlet_name l.items) outs in
    let is_sents = ap (λ l. map sent l.items) outs' ∙ ap (λ w. w.sents) v ∙ ap (λ l. map sent l.items) outs in
    λ i. record { name = record { place = (is_me i).number; outs = is_outs i; ins = names i }; pushed = map (map (item_from (is_me i))) (is_sents i); taken = taken i }

pub keeps_faces : (ends now : List LaneEnds) → map face now ≡ map face ends → Keeps lane_name lane_pushed lane_taken ends now
keeps_faces ends now same = record {
  names = sym (map-map (λ x. x.name) face now) ∙ ap (map (λ x. x.name)) same ∙ map-map (λ x. x.name) face ends;
  pushed_to = λ k e f there here p. face-pushed f p ∙ ap (λ x. get_or x.pushed p []) (same_at face now ends k same here there) ∙ sym (face-pushed e p);
  taken_from = λ k e f there here p. ap (λ x. get_or x.taken p []) (same_at face now ends k same here there);
}

pub rings_view : (e f : LaneEnds) → view f ≡ view e → HasRings e → HasRings f
rings_view e f v r =
    let me = ap (λ w. w.me.number) v in
    let outs : length f.outs.items ≡ length e.outs.items = sym (length-map f.outs.items outlet_name) ∙ ap (λ w. length w.outs) v ∙ length-map e.outs.items outlet_name in
    let ins = ap (λ w. w.ins) v in
    let left = ap (λ w. w.left) v in record {
      square = ap (λ l. length l.items) ins ∙ r.square ∙ sym outs;
      inside = let h = r.inside in omega arith;
      few = let h = r.few in omega arith;
      live = λ k i here. r.live k i (subst (λ l. at l.items k i) ins here);
      empty = ap (λ l. l.items) left ∙ r.empty;
      room = let a = ap (λ l. sum (map inlet_capacity l.items)) ins in let b = ap (λ l. vec_capacity l) left in let h = r.room in omega arith;
    }

-- the other ends have their rings as before
pub rings_back : (ends now : List LaneEnds) (place k : ℕ) (out last e f : LaneEnds) → map view now ≡ map view (set ends place out) → k ≢ place → at ends k e → at (set now place last) k f → HasRings e → HasRings f
rings_back ends now place k out last e f same apart there here rings =
    rings_view e f (same_at view now (set ends place out) k same (sym (at_other now place k last apart) ∙ here) (at_other ends place k out apart ∙ there)) rings
