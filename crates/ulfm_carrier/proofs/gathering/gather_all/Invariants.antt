use Rattle.std.proofs.Common.{◌≡◌, ◌≤◌, ℕ, length, vec_capacity}
use Rattle.ulfm_carrier.proofs.Common.{at, Global, HasRings, Item, Keeps, lane_name, lane_pushed, lane_taken, LaneEnds, Vec, WorldRank}
use Rattle.ulfm_carrier.proofs.Settling.{Flows, NoOthers}
use Rattle.ulfm_carrier.proofs.gathering.gather_all.Given as goal

abbrev pub invariant-loop-place : goal.invariant-loop-place
invariant-loop-place l = record {
  same : Keeps lane_name lane_pushed lane_taken l.fn.ends.items l.ends.items;
  rings : (k : ℕ) (e : LaneEnds) → l.place ≤ k → at l.ends.items k e → HasRings e;
  many : length l.inboxes.items ≡ l.place;
  room : length l.fn.ends.items ≤ vec_capacity l.inboxes;
  flows : (d : ℕ) (inbox : Vec (WorldRank × Item) Global) → at l.inboxes.items d inbox → Flows lane_name lane_pushed lane_taken l.fn.ends.items d inbox;
  no_others : (d : ℕ) (inbox : Vec (WorldRank × Item) Global) → at l.inboxes.items d inbox → NoOthers l.fn.ends.items d inbox;
}
