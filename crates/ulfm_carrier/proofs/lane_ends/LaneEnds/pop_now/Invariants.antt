use Rattle.std.proofs.Common.{◌≡◌, ◌≢◌, ◌<◌, ◌≤◌, ◌+◌, ◌%◌, ℕ, [], length, vec_len}
use Rattle.ulfm_carrier.specs.Lanes.{lane_name, lane_pushed, lane_taken, known_room, seen_from, IsReady}
use Rattle.ulfm_carrier.proofs.lane_ends.LaneEnds.pop_now.Given as goal

abbrev pub invariant-loop-step : goal.invariant-loop-step
invariant-loop-step l = record {
  name : lane_name l.self ≡ lane_name l.initial.self;
  me : l.self.me ≡ l.initial.self.me;
  rows : vec_len l.self.outs ≡ vec_len l.initial.self.outs;
  ready : IsReady l.self;
  next : l.self.next ≡ l.initial.self.next;
  many : length l.self.ins.items ≡ l.count;
  nothing_seen : (j : ℕ) → j < l.step → seen_from l.self ((l.start + j) % l.count) ≡ [];
  own : (j : ℕ) → j < l.step → (l.start + j) % l.count ≡ l.initial.self.me.number → lane_pushed l.self l.initial.self.me.number ≡ lane_taken l.self l.initial.self.me.number;
  taken : (p : ℕ) → lane_taken l.self p ≡ lane_taken l.initial.self p;
  pushed : (p : ℕ) → lane_pushed l.self p ≡ lane_pushed l.initial.self p;
  rooms : (p : ℕ) → known_room l.initial.self p ≤ known_room l.self p;
  other_rooms : (p : ℕ) → p ≢ l.initial.self.me.number → known_room l.self p ≡ known_room l.initial.self p;
}
