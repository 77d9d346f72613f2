use Rattle.std.proofs.Common.{◌≡◌, ◌+◌, ◌≤◌, ◌++◌, ℕ, All, map, vec_len, vec_capacity}
use Rattle.std.specs.Vec.Iter.{into_iter_items, into_iter_len}
use Rattle.ulfm_base.specs.Lists.{at}
use Rattle.ulfm_carrier.specs.Family.{IsFresh}
use Rattle.ulfm_carrier.specs.Lanes.{IsReady, lane_pushed, lane_taken}
use Rattle.ulfm_carrier.specs.declared.lane_ends.LaneEnds.{LaneEnds}
use Rattle.ulfm_c.proofs.Seated.{in_seat}
use Rattle.ulfm_c.specs.Making.{StartsAtEnd, end_of, seat_of}
use Rattle.ulfm_c.proofs.making.seated.Given as goal

abbrev pub invariant-loop-end : goal.invariant-loop-end
invariant-loop-end l = record {
  room : vec_len l.all + into_iter_len l.end-iterator ≤ vec_capacity l.all;
  enough : into_iter_len l.end-iterator ≤ into_iter_len l.seats;
  ends : map end_of l.all.items ++ into_iter_items l.end-iterator ≡ l.fn.ends.items;
  fresh : (k : ℕ) (e : LaneEnds) → at (into_iter_items l.end-iterator) k e → IsFresh (λ (e : LaneEnds). vec_len e.outs) lane_pushed lane_taken IsReady l.fn.ranks e;
  seats : map seat_of l.all.items ++ map in_seat (into_iter_items l.seats) ≡ map in_seat l.fn.seats.items;
  start : All (StartsAtEnd l.fn.ranks) l.all.items;
}
