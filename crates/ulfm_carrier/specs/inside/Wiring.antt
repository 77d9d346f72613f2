-- Ends while their rings are made: rank by rank of the senders, and for each one rank by rank of the receivers.
use Rattle.std.specs.Prelude.{◌≡◌, ◌<◌, ◌≤◌, ◌+◌, ◌*◌, ℕ, List, [], length, map, vec_capacity, slice_get}
use Rattle.rtrb.specs.Ring.{sent, known_free}
use Rattle.ulfm_carrier.specs.declared.inlet.Inlet.{Inlet}
use Rattle.ulfm_carrier.specs.declared.lane_ends.LaneEnds.{LaneEnds}
use Rattle.ulfm_base.specs.Lists.{at}
use Rattle.ulfm_carrier.specs.Lanes.{Outlet, outlet_name, inlet_name, inlet_capacity, taken_by, IsOpenRing}

-- an outgoing ring of this capacity, as it is made
abbrev pub IsNewOutlet : ℕ → Outlet → Type 0
IsNewOutlet capacity p = (sent p ≡ []) × (known_free p ≡ capacity)

-- the ring from the rank k, of this capacity, as it is made
abbrev pub IsNewInlet : ℕ → ℕ → Inlet → Type 0
IsNewInlet capacity k i = IsOpenRing k i × (taken_by i ≡ []) × (inlet_capacity i ≡ capacity)

-- The rank k of n, once the rings of the senders below s are made, and those of s to the receivers below d.
pub record IsWired (n capacity s d k : ℕ) (e : LaneEnds) : Type 0 where
  pub number : e.me.number ≡ k
  pub first : e.next ≡ 0
  pub outs_below : k < s → length e.outs.items ≡ n
  pub outs_here : k ≡ s → length e.outs.items ≡ d
  pub outs_above : s < k → e.outs.items ≡ []
  pub ins_below : k < d → length e.ins.items ≡ s + 1
  pub ins_above : d ≤ k → length e.ins.items ≡ s
  pub new_outs : (j : ℕ) (p : Outlet) → at e.outs.items j p → IsNewOutlet capacity p
  pub new_ins : (j : ℕ) (i : Inlet) → at e.ins.items j i → IsNewInlet capacity j i
  pub nothing_left : e.left.items ≡ []
  pub room : n * capacity ≤ vec_capacity e.left
  pub no_inbox : e.inboxes.items ≡ []
  pub inbox_for_each : n ≤ vec_capacity e.inboxes

-- the ranks of n at that time: the ring from i to j is one ring at both
pub record AreWired (n capacity s d : ℕ) (ends : List LaneEnds) : Type 0 where
  pub as_many : length ends ≡ n
  pub each : (k : ℕ) (e : LaneEnds) → at ends k e → IsWired n capacity s d k e
  pub joined : (i j : ℕ) (x y : LaneEnds) → at ends i x → at ends j y → slice_get (map outlet_name x.outs.items) j ≡ slice_get (map inlet_name y.ins.items) i
