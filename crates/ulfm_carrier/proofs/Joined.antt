-- The ends of one call, looked up while one of them is emptied.
use Rattle.std.proofs.Common.{◌≡◌, ◌<◌, ℕ, List, [], length, map, set, get_or, ap, sym, ◌∙◌, arith, slice_get}
use Rattle.rtrb.specs.Ring.{sent, IsPair}
use Rattle.ulfm_carrier.proofs.Common.{at, at_view, Carried, Inlet, item_from, LaneEnds, length-map, map-map, map-set_same, RingName, same_rank, slice_get_within, there, WorldRank}
use Rattle.ulfm_carrier.specs.Lanes.{Outlet, outlet_name, inlet_name, lane_name, lane_pushed, pushed_into, OneCall}
use Rattle.ulfm_carrier.proofs.Places.{at_read, view_or}
use Rattle.ulfm_carrier.proofs.Views.{EndView, view, of_views, same_at, as_many, pushed_at}
use Rattle.ulfm_carrier.proofs.Faces.{face-pushed}
use Rattle.ulfm_carrier.proofs.Rings.{is_pair}

-- an end's rank and its outgoing rings
pub record Outline : Type 0 where
  pub me : WorldRank
  pub outs : List RingName
  pub sents : List (List Carried)

abbrev pub outline_of : EndView → Outline
outline_of v = record { me = v.me; outs = v.outs; sents = v.sents }

abbrev pub outline : LaneEnds → Outline
outline e = outline_of (view e)

pub outlines : (ends now : List LaneEnds) (k : ℕ) (e out : LaneEnds) → e ≡ get_or ends k e → out.me ≡ e.me → out.outs ≡ e.outs → map view now ≡ map view (set ends k out) → map outline now ≡ map outline ends
outlines ends now k e out here me outs same =
    let one : outline out ≡ outline e = λ i. record { me = me i; outs = map outlet_name (outs i).items; sents = map sent (outs i).items } in
    of_views outline_of now (set ends k out) same ∙ map-set_same outline ends k out e (one ∙ ap outline here)

module _ (ends : List LaneEnds) (one : OneCall (map lane_name ends)) where
  many : length (map lane_name ends) ≡ length ends
  many = length-map ends lane_name

  pub number : (k : ℕ) {e : LaneEnds} → at ends k e → e.me.number ≡ k
  number k {e} here = one.placed k (lane_name e) (at_view lane_name ends k e here)

  pub all_outs : (k : ℕ) {e : LaneEnds} → at ends k e → length e.outs.items ≡ length ends
  all_outs k {e} here = sym (length-map e.outs.items outlet_name) ∙ one.outs k (lane_name e) (at_view lane_name ends k e here) ∙ many

  pub all_ins : (k : ℕ) {e : LaneEnds} → at ends k e → length e.ins.items ≡ length ends
  all_ins k {e} here = sym (length-map e.ins.items inlet_name) ∙ one.ins k (lane_name e) (at_view lane_name ends k e here) ∙ many

-- one of the ends of one call is emptied, and the others are as they were but for their outgoing rings
pub record Emptying (ends : List LaneEnds) (place : ℕ) (receiver : LaneEnds) (now : List LaneEnds) : Type 0 where
  pub one : OneCall (map lane_name ends)
  pub there : at ends place receiver
  pub same : map outline now ≡ map outline ends

pub emptying : (ends : List LaneEnds) (place : ℕ) {receiver : LaneEnds} (out : LaneEnds) (now : List LaneEnds) → OneCall (map lane_name ends) → place < length ends → receiver ≡ get_or ends place receiver → out.me ≡ receiver.me → out.outs ≡ receiver.outs
    → map view now ≡ map view (set ends place out) → Emptying ends place receiver now
emptying ends place {receiver} out now one low here me outs same = record { one = one; there = at_read ends place low here; same = outlines ends now place receiver out here me outs same }

module _ {ends : List LaneEnds} {place : ℕ} {receiver : LaneEnds} {now : List LaneEnds} (w : Emptying ends place receiver now) where
  pub as_before : (k : ℕ) → k < length ends → k < length now
  as_before k low = omega (arith, as_many outline now ends w.same)

  was : (k : ℕ) (e : LaneEnds) → at now k e → (d : LaneEnds) × at ends k d
  was k e here = there ends k (omega (arith, as_many outline now ends w.same, slice_get_within now k e here))

  -- the end's ring to the receiver
  pub out_room : (k : ℕ) {e : LaneEnds} → at now k e → place < length e.outs.items
  out_room k {e} here =
      let d = was k e here in
      let v = ap (λ o. length o.outs) (same_at outline now ends k w.same here d.1) in
      let n : length e.outs.items ≡ length d.0.outs.items = sym (length-map e.outs.items outlet_name) ∙ v ∙ length-map d.0.outs.items outlet_name in
      let m = all_outs ends w.one k d.1 in
      let low = slice_get_within ends place receiver w.there in omega arith

  pub in_room : (k : ℕ) (ins : List Inlet) → k < length ends → map inlet_name ins ≡ map inlet_name receiver.ins.items → k < length ins
  in_room k ins low kept =
      let n = as_many inlet_name ins receiver.ins.items kept in
      let m = all_ins ends w.one place w.there in omega arith

  pub pair : (k : ℕ) {e : LaneEnds} {p : Outlet} (ins : List Inlet) {i : Inlet} → at now k e → at e.outs.items place p → map inlet_name ins ≡ map inlet_name receiver.ins.items → at ins k i → IsPair p i.ring
  pair k {e} {p} ins {i} here out kept inlet =
      let d = was k e here in
      let left = sym (at_view outlet_name e.outs.items place p out) ∙ ap (λ o. slice_get o.outs place) (same_at outline now ends k w.same here d.1) in
      let right = ap (λ l. slice_get l k) (sym kept) ∙ at_view inlet_name ins k i inlet in
      is_pair p i (left ∙ w.one.joined k place (lane_name d.0) (lane_name receiver) (at_view lane_name ends k d.0 d.1) (at_view lane_name ends place receiver w.there) ∙ right)

  -- what the end pushed to the receiver is what the ring between them carried
  pub pushed : {k : ℕ} {e : LaneEnds} {p : Outlet} (source : WorldRank) → at now k e → at e.outs.items place p → source.number ≡ k → pushed_at ends k place ≡ pushed_into source p
  pushed {k} {e} {p} source here out is =
      let d = was k e here in
      let v = same_at outline now ends k w.same here d.1 in
      let me : d.0.me ≡ source = same_rank d.0.me source (number ends w.one k d.1 ∙ sym is) in
      view_or (λ e. lane_pushed e place) ends k [] d.1 ∙ face-pushed d.0 place ∙ ap (λ o. get_or (map (map (item_from d.0.me)) o.sents) place []) (sym v)
      ∙ ap (λ r. get_or (map (map (item_from r)) (map sent e.outs.items)) place []) me ∙ ap (λ l. get_or l place []) (map-map (map (item_from source)) sent e.outs.items)
      ∙ view_or (pushed_into source) e.outs.items place [] out
