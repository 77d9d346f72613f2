-- One ring of an end is written.
use Rattle.std.proofs.Common.{◌≡◌, ◌<◌, ℕ, None, List, [], ◌∷◌, ◌++◌, length, map, set, get_or, sum, vec_capacity, refl, ap, sym, ◌∙◌, arith, subst, Some, slice_get}
use Rattle.rtrb.specs.Ring.{sent, IsPair, SameProducer}
use Rattle.ulfm_carrier.proofs.Common.{at, at_view, ComesFrom, Global, Inlet, Item, LaneEnds, map-append, map-set_same, Vec, WorldRank}
use Rattle.ulfm_carrier.specs.Carried.{carried_of, item_from}
use Rattle.ulfm_carrier.specs.Lanes.{Outlet, outlet_name, inlet_name, inlet_capacity, pushed_into, taken_by, lane_name, IsReady, IsOpenRing}
use Rattle.ulfm_carrier.proofs.Places.{at_read, each_set, view_or, view_here}
use Rattle.ulfm_carrier.proofs.Views.{as_many}
use Rattle.ulfm_carrier.proofs.Ranks.{source_back}

pub same_outlet : (p q : Outlet) → SameProducer p q → outlet_name q ≡ outlet_name p
same_outlet p q h = λ i. record { words = h.0.0 i; slots = h.0.1 i; names = h.0.2 i; heap = h.0.3 i }

pub same_twice : (p q r : Outlet) → SameProducer p q → SameProducer q r → SameProducer p r
same_twice p q r h k = ((k.0.0 ∙ h.0.0, k.0.1 ∙ h.0.1, k.0.2 ∙ h.0.2, k.0.3 ∙ h.0.3), k.1 ∙ h.1)

pub outlet_names : (outs : List Outlet) (k : ℕ) (p q : Outlet) → p ≡ get_or outs k p → SameProducer p q → map outlet_name (set outs k q) ≡ map outlet_name outs
outlet_names outs k p q here same = map-set_same outlet_name outs k q p (same_outlet p q same ∙ ap outlet_name here)

pub inlet_names : (ins : List Inlet) (k : ℕ) (i j : Inlet) → i ≡ get_or ins k i → inlet_name j ≡ inlet_name i → map inlet_name (set ins k j) ≡ map inlet_name ins
inlet_names ins k i j here same = map-set_same inlet_name ins k j i (same ∙ ap inlet_name here)

pub sent_more : (me : WorldRank) (k : ℕ) (outs : List Outlet) (p q : Outlet) (x : Item) → k < length outs → p ≡ get_or outs k p → ComesFrom me.number x → sent q ≡ sent p ++ carried_of x ∷ []
    → get_or (map (pushed_into me) (set outs k q)) k [] ≡ get_or (map (pushed_into me) outs) k [] ++ x ∷ []
sent_more me k outs p q x low here from more =
    view_here (pushed_into me) outs k q [] low ∙ ap (map (item_from me)) more ∙ map-append (item_from me) (sent p) (carried_of x ∷ []) ∙ ap (λ y. pushed_into me p ++ y ∷ []) (source_back me x from)
    ∙ ap (λ l. l ++ x ∷ []) (sym (view_or (pushed_into me) outs k [] (at_read outs k low here)))

pub sent_same : (me : WorldRank) (k : ℕ) (outs : List Outlet) (p q : Outlet) → p ≡ get_or outs k p → sent q ≡ sent p → map (pushed_into me) (set outs k q) ≡ map (pushed_into me) outs
sent_same me k outs p q here same = map-set_same (pushed_into me) outs k q p (ap (map (item_from me)) same ∙ ap (pushed_into me) here)

-- two ends of one name are those of one ring
pub is_pair : (p : Outlet) (i : Inlet) → Some (outlet_name p) ≡ Some (inlet_name i) → IsPair p i.ring
is_pair p i both =
    let is : inlet_name i ≡ outlet_name p = cc in (ap (λ n. n.words) is, ap (λ n. n.slots) is, ap (λ n. n.names) is, ap (λ n. n.heap) is)

-- the two ends of the ring from a rank to itself
pub own_pair : (e : LaneEnds) {p : Outlet} {i : Inlet} → IsReady e → at e.outs.items e.me.number p → at e.ins.items e.me.number i → IsPair p i.ring
own_pair e {p} {i} r out inlet = is_pair p i (sym (at_view outlet_name e.outs.items e.me.number p out) ∙ r.own_ring ∙ at_view inlet_name e.ins.items e.me.number i inlet)

-- an end that shows the same rings, and has the same room
ready_as : (e f : LaneEnds) → f.me ≡ e.me → map outlet_name f.outs.items ≡ map outlet_name e.outs.items → map inlet_name f.ins.items ≡ map inlet_name e.ins.items → map inlet_capacity f.ins.items ≡ map inlet_capacity e.ins.items
    → ((k : ℕ) (i : Inlet) → at f.ins.items k i → IsOpenRing k i) → f.left ≡ e.left → f.inboxes ≡ e.inboxes → IsReady e → IsReady f
ready_as e f me outs ins capacities live left inboxes r =
    let number : f.me.number ≡ e.me.number = ap (λ a. a.number) me in
    let many = as_many outlet_name f.outs.items e.outs.items outs in record {
      own_ring = (λ i. slice_get (outs i) (number i)) ∙ r.own_ring ∙ sym (λ i. slice_get (ins i) (number i));
      rings = record {
        square = as_many inlet_name f.ins.items e.ins.items ins ∙ r.rings.square ∙ sym many;
        inside = let h = r.rings.inside in omega arith;
        few = let h = r.rings.few in omega arith;
        live = live;
        empty = ap (λ v. v.items) left ∙ r.rings.empty;
        room = let a = ap sum capacities in let b = ap (λ v. vec_capacity v) left in let h = r.rings.room in omega arith;
      };
      no_inbox = ap (λ v. v.items) inboxes ∙ r.no_inbox;
      inbox_for_each = let b = ap (λ v. vec_capacity v) inboxes in let h = r.inbox_for_each in omega arith;
    }

-- outlets and an inlet are looked at, or an item is taken
pub ready_both : (e : LaneEnds) (outs : Vec Outlet Global) (ins : Vec Inlet Global) (next k : ℕ) (i j : Inlet) → map outlet_name outs.items ≡ map outlet_name e.outs.items → ins.items ≡ set e.ins.items k j → i ≡ get_or e.ins.items k i
    → inlet_name j ≡ inlet_name i → inlet_capacity j ≡ inlet_capacity i → IsOpenRing k j → IsReady e → IsReady (record e { outs = outs; ins = ins; next = next })
ready_both e outs ins next k i j names is here name capacity is_open r =
    ready_as e (record e { outs = outs; ins = ins; next = next }) refl names (ap (map inlet_name) is ∙ inlet_names e.ins.items k i j here name) (ap (map inlet_capacity) is ∙ map-set_same inlet_capacity e.ins.items k j i (capacity ∙ ap inlet_capacity here))
    (λ p x at_p. each_set IsOpenRing e.ins.items k j (λ p y _ h. r.rings.live p y h) is_open p x (subst (λ l. at l p x) is at_p)) refl refl r

pub ready_outs : (e : LaneEnds) (outs : Vec Outlet Global) → map outlet_name outs.items ≡ map outlet_name e.outs.items → IsReady e → IsReady (record e { outs = outs })
ready_outs e outs names r = ready_as e (record e { outs = outs }) refl names refl refl r.rings.live refl refl r

pub taken_from : {e : LaneEnds} (ins : Vec Inlet Global) (next k : ℕ) {i : Inlet} (j : Inlet) → ins.items ≡ set e.ins.items k j → i ≡ get_or e.ins.items k i → k < length e.ins.items → inlet_name j ≡ inlet_name i → inlet_capacity j ≡ inlet_capacity i
    → j.source ≡ i.source → j.gathered ≡ None → IsReady e → (lane_name (record e { ins = ins; next = next }) ≡ lane_name e) × IsReady (record e { ins = ins; next = next })
taken_from {e} ins next k {i} j is here low name capacity source gathered r = (
  (λ n. record { place = e.me.number; outs = map outlet_name e.outs.items; ins = (ap (map inlet_name) is ∙ inlet_names e.ins.items k i j here name) n }),
  ready_both e e.outs ins next k i j refl is here name capacity (ap (λ a. a.number) source ∙ (r.rings.live k i (at_read e.ins.items k low here)).0, gathered) r,
)

pub taken_more : (k : ℕ) (ins : List Inlet) {i : Inlet} (j : Inlet) (x : Item) → k < length ins → i ≡ get_or ins k i → taken_by j ≡ taken_by i ++ x ∷ []
    → get_or (map taken_by (set ins k j)) k [] ≡ get_or (map taken_by ins) k [] ++ x ∷ []
taken_more k ins {i} j x low here more = view_here taken_by ins k j [] low ∙ more ∙ ap (λ l. l ++ x ∷ []) (sym (view_or taken_by ins k [] (at_read ins k low here)))
