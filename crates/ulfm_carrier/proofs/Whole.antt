-- With all rings made, the ends are those of one call, and nothing was done with them.
use Rattle.std.proofs.Common.{◌≡◌, ◌<◌, ◌≤◌, ◌*◌, ℕ, zero, suc, List, [], ◌∷◌, length, map, get_or, sum, vec_len, refl, ap, sym, ◌∙◌, arith, subst, slice_get}
use Rattle.std.proofs.lemmas.List.Sums.{sum_by-cons}
use Rattle.ulfm_carrier.proofs.Common.{AllFresh, AreWired, at, item_from, known_free, LaneEnds, length-map, slice_get_within}
use Rattle.ulfm_carrier.specs.Lanes.{outlet_name, inlet_name, inlet_capacity, pushed_into, taken_by, lane_name, lane_pushed, lane_taken, known_room, IsReady, OneCall}

pub at_map : {X Y : Type 0} (f : X → Y) (xs : List X) (k : ℕ) {y : Y} → at (map f xs) k y → (x : X) × at xs k x × (y ≡ f x)
at_map f [] k here = absurd (cc)
at_map f (x ∷ xs) zero here = (x, refl, cc)
at_map f (x ∷ xs) (suc k) {y} here = at_map f xs k here

pub all_empty : {X Y : Type 0} (f : X → List Y) (xs : List X) → ((k : ℕ) (x : X) → at xs k x → f x ≡ []) → (p : ℕ) → get_or (map f xs) p [] ≡ []
all_empty f [] each p = refl
all_empty f (x ∷ xs) each zero = each 0 x refl
all_empty f (x ∷ xs) each (suc p) = all_empty f xs (λ k y here. each (suc k) y here) p

all_equal : {X : Type 0} (f : X → ℕ) (c : ℕ) (xs : List X) → ((k : ℕ) (x : X) → at xs k x → f x ≡ c) → (p : ℕ) → p < length xs → get_or (map f xs) p 0 ≡ c
all_equal f c [] each p low = absurd (omega (arith, low))
all_equal f c (x ∷ xs) each zero low = each 0 x refl
all_equal f c (x ∷ xs) each (suc p) low = all_equal f c xs (λ k y here. each (suc k) y here) p (omega (arith, low))

sum_equal : {X : Type 0} (f : X → ℕ) (c : ℕ) (xs : List X) → ((k : ℕ) (x : X) → at xs k x → f x ≡ c) → sum (map f xs) ≡ length xs * c
sum_equal f c [] each = omega arith
sum_equal f c (x ∷ xs) each =
    let rest = sum_equal f c xs (λ k y here. each (suc k) y here) in
    let own = each 0 x refl in
    sum_by-cons (λ n. n) (f x) (map f xs) ∙ omega (arith, rest, own)

module _ (n capacity : ℕ) (ends : List LaneEnds) (w : AreWired n capacity n 0 ends) where
  below : (k : ℕ) (e : LaneEnds) → at ends k e → k < n
  below k e here = omega (arith, slice_get_within ends k e here, w.as_many)

  pub outs_all : (k : ℕ) {e : LaneEnds} → at ends k e → length e.outs.items ≡ n
  outs_all k {e} here = (w.each k e here).outs_below (below k e here)

  ins_all : (k : ℕ) (e : LaneEnds) → at ends k e → length e.ins.items ≡ n
  ins_all k e here = (w.each k e here).ins_above (omega arith)

  many : length (map lane_name ends) ≡ n
  many = length-map ends lane_name ∙ w.as_many

  pub wired_family : 0 < n → OneCall (map lane_name ends)
  wired_family some = record {
    some = omega (arith, many);
    placed = λ i x here. let e = at_map lane_name ends i here in ap (λ y. y.place) e.2 ∙ (w.each i e.0 e.1).number;
    outs = λ i x here.
        let e = at_map lane_name ends i here in ap (λ y. length y.outs) e.2 ∙ length-map e.0.outs.items outlet_name ∙ outs_all i e.1 ∙ sym many;
    ins = λ i x here. let e = at_map lane_name ends i here in ap (λ y. length y.ins) e.2 ∙ length-map e.0.ins.items inlet_name ∙ ins_all i e.0 e.1 ∙ sym many;
    joined = λ i j x y at_i at_j.
        let a = at_map lane_name ends i at_i in
        let b = at_map lane_name ends j at_j in
        ap (λ v. slice_get v.outs j) a.2 ∙ w.joined i j a.0 b.0 a.1 b.1 ∙ sym (ap (λ v. slice_get v.ins i) b.2);
  }

  ready : n ≤ 8 → (k : ℕ) (e : LaneEnds) → at ends k e → IsReady e
  ready few k e here =
      let v = w.each k e here in
      let outs = outs_all k here in
      let ins = ins_all k e here in record {
        rings = record {
          square = ins ∙ sym outs;
          inside = omega (arith, v.number, below k e here);
          few = omega arith;
          live = λ j i there. (v.new_ins j i there).0;
          empty = v.nothing_left;
          room = let s = sum_equal inlet_capacity capacity e.ins.items (λ j i there. (v.new_ins j i there).2) in let r = v.room in let p = ap (λ m. m * capacity) ins in omega arith;
        };
        own_ring = subst (λ m. slice_get (map outlet_name e.outs.items) m ≡ slice_get (map inlet_name e.ins.items) m) (sym v.number) (w.joined k k e e here here);
        no_inbox = v.no_inbox;
        inbox_for_each = let r = v.inbox_for_each in omega arith;
      }

  pub wired_fresh : n ≤ 8 → AllFresh (λ e. vec_len e.outs) lane_pushed lane_taken IsReady ends
  wired_fresh few k e here =
      let v = w.each k e here in record {
        is_ready = ready few k e here;
        counted = omega (arith, outs_all k here, e.outs.ok, w.as_many);
        nothing_pushed = all_empty (pushed_into e.me) e.outs.items (λ j p there. ap (map (item_from e.me)) (v.new_outs j p there).0);
        nothing_taken = all_empty taken_by e.ins.items (λ j i there. (v.new_ins j i there).1);
      }

  pub wired_room : (k d : ℕ) (e : LaneEnds) → at ends k e → d < n → known_room e d ≡ capacity
  wired_room k d e here low = let v = w.each k e here in all_equal known_free capacity e.outs.items (λ j p there. (v.new_outs j p there).1) d (omega (arith, outs_all k here))
