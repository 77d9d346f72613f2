-- Ends stay wired when the ring of the next pair is added.
use Rattle.std.proofs.Common.{◌≡◌, ◌<◌, ◌+◌, inl, inr, ℕ, List, length, map, Some, vec_capacity, refl, ap, sym, ◌∙◌, arith, subst, slice_get}
use Rattle.ulfm_carrier.proofs.Common.{at, cases_eq, Inlet, inlet_name, LaneEnds, length_push, Outlet, outlet_name, slice_get_within}
use Rattle.ulfm_carrier.specs.inside.Wiring.{IsNewOutlet, IsNewInlet, IsWired, AreWired}
use Rattle.ulfm_carrier.proofs.Places.{view_pushed, view_unpushed, each_push}
use Rattle.ulfm_carrier.proofs.Wires.{Adds}

each_of : {X : Type 0} (P : ℕ → X → Type 0) {xs ys : List X} → ys ≡ xs → ((j : ℕ) (x : X) → at xs j x → P j x) → (j : ℕ) (x : X) → at ys j x → P j x
each_of P same each j x here = each j x (subst (λ l. at l j x) same here)

module _ (n capacity s d : ℕ) (out : Outlet) (inlet : Inlet) (new_out : IsNewOutlet capacity out) (new_in : IsNewInlet capacity s inlet) where
  wired_end : (k : ℕ) (e f : LaneEnds) → IsWired n capacity s d k e → Adds s d k out inlet e f → IsWired n capacity s (d + 1) k f
  wired_end k e f w a = record {
    number = ap (λ r. r.number) a.me ∙ w.number;
    first = a.next ∙ w.first;
    outs_below = λ below. ap length (a.outs_other (λ same. absurd (omega arith))) ∙ w.outs_below below;
    outs_here = λ same. ap length (a.outs_here same) ∙ length_push e.outs.items out ∙ ap (λ m. m + 1) (w.outs_here same);
    outs_above = λ above. a.outs_other (λ same. absurd (omega arith)) ∙ w.outs_above above;
    ins_below = λ below. elim (cases_eq k d) [
      | inl same ↦ ap length (a.ins_here same) ∙ length_push e.ins.items inlet ∙ ap (λ m. m + 1) (w.ins_above (omega arith))
      | inr apart ↦ ap length (a.ins_other apart) ∙ w.ins_below (let m = apart in omega arith)
    ];
    ins_above = λ above. ap length (a.ins_other (λ same. absurd (omega arith))) ∙ w.ins_above (omega arith);
    new_outs = elim (cases_eq k s) [
      | inl same ↦ each_of (λ _. IsNewOutlet capacity) (a.outs_here same) (each_push (λ _. IsNewOutlet capacity) e.outs.items out (length e.outs.items) refl w.new_outs new_out)
      | inr apart ↦ each_of (λ _. IsNewOutlet capacity) (a.outs_other apart) w.new_outs
    ];
    new_ins = elim (cases_eq k d) [
      | inl same ↦ each_of (IsNewInlet capacity) (a.ins_here same) (each_push (IsNewInlet capacity) e.ins.items inlet s (w.ins_above (omega arith)) w.new_ins new_in)
      | inr apart ↦ each_of (IsNewInlet capacity) (a.ins_other apart) w.new_ins
    ];
    nothing_left = ap (λ v. v.items) a.left ∙ w.nothing_left;
    room = let b = ap (λ v. vec_capacity v) a.left in let h = w.room in omega arith;
    no_inbox = ap (λ v. v.items) a.inboxes ∙ w.no_inbox;
    inbox_for_each = let b = ap (λ v. vec_capacity v) a.inboxes in let h = w.inbox_for_each in omega arith;
  }

  joined_ends : (i j : ℕ) (x y : LaneEnds) {x' y' : LaneEnds} → outlet_name out ≡ inlet_name inlet → IsWired n capacity s d i x → IsWired n capacity s d j y → Adds s d i out inlet x x' → Adds s d j out inlet y y'
      → slice_get (map outlet_name x.outs.items) j ≡ slice_get (map inlet_name y.ins.items) i → slice_get (map outlet_name x'.outs.items) j ≡ slice_get (map inlet_name y'.ins.items) i
  joined_ends i j x y pair w v a b was = elim (cases_eq i s) [
    | inl from ↦ elim (cases_eq j d) [
      | inl to ↦
          ap (λ l. slice_get (map outlet_name l) j) (a.outs_here from) ∙ view_pushed outlet_name x.outs.items out j (w.outs_here from ∙ sym to) ∙ ap Some pair
          ∙ sym (view_pushed inlet_name y.ins.items inlet i (v.ins_above (omega arith) ∙ sym from)) ∙ ap (λ l. slice_get (map inlet_name l) i) (sym (b.ins_here to))
      | inr apart ↦
          ap (λ l. slice_get (map outlet_name l) j) (a.outs_here from) ∙ view_unpushed outlet_name x.outs.items out j (λ e. apart (e ∙ w.outs_here from)) ∙ was
          ∙ ap (λ l. slice_get (map inlet_name l) i) (sym (b.ins_other apart))
    ]
    | inr other ↦ ap (λ l. slice_get (map outlet_name l) j) (a.outs_other other) ∙ was ∙ elim (cases_eq j d) [
      | inl to ↦ sym (view_unpushed inlet_name y.ins.items inlet i (λ e. other (e ∙ v.ins_above (omega arith)))) ∙ ap (λ l. slice_get (map inlet_name l) i) (sym (b.ins_here to))
      | inr apart ↦ ap (λ l. slice_get (map inlet_name l) i) (sym (b.ins_other apart))
    ]
  ]

  pub wired_more : (ends ends' : List LaneEnds) → outlet_name out ≡ inlet_name inlet → length ends' ≡ length ends → ((k : ℕ) (f : LaneEnds) → at ends' k f → (e : LaneEnds) × at ends k e × Adds s d k out inlet e f)
      → AreWired n capacity s d ends → AreWired n capacity s (d + 1) ends'
  wired_more ends ends' pair many adds w = record {
    as_many = many ∙ w.as_many;
    each = λ k f here. let a = adds k f here in wired_end k a.0 f (w.each k a.0 a.1) a.2;
    joined = λ i j x' y' at_i at_j.
        let a = adds i x' at_i in let b = adds j y' at_j in joined_ends i j a.0 b.0 pair (w.each i a.0 a.1) (w.each j b.0 b.1) a.2 b.2 (w.joined i j a.0 b.0 a.1 b.1);
  }

-- all rings of one sender are made
pub wired_next : (n : ℕ) {capacity s d : ℕ} {ends : List LaneEnds} → d ≡ n → AreWired n capacity s d ends → AreWired n capacity (s + 1) 0 ends
wired_next n {s} {ends} all w = record {
  as_many = w.as_many;
  joined = w.joined;
  each = λ k e here.
      let v = w.each k e here in
      let inside : k < n = omega (arith, slice_get_within ends k e here, w.as_many) in record {
        number = v.number;
        first = v.first;
        outs_below = λ below. elim (cases_eq k s) [ inl same ↦ v.outs_here same ∙ all | inr apart ↦ v.outs_below (let m = apart in omega arith) ];
        outs_here = λ same. ap length (v.outs_above (omega arith));
        outs_above = λ above. v.outs_above (omega arith);
        ins_below = λ below. absurd (omega (arith, below));
        ins_above = λ _. v.ins_below (omega arith);
        new_outs = v.new_outs;
        new_ins = v.new_ins;
        nothing_left = v.nothing_left;
        room = v.room;
        no_inbox = v.no_inbox;
        inbox_for_each = v.inbox_for_each;
      };
}
