use Rattle.std.proofs.Common.{◌≡◌, ℕ, [], length}
use Rattle.ulfm_carrier.proofs.Common.{at, IsWired, LaneEnds}
use Rattle.ulfm_carrier.proofs.wiring.unconnected.Given as goal

abbrev pub invariant-loop-number : goal.invariant-loop-number
invariant-loop-number l = record {
  many : length l.ends.items ≡ l.number;
  each : (k : ℕ) (e : LaneEnds) → at l.ends.items k e → IsWired l.n l.capacity 0 0 k e;
  alone : (k : ℕ) (e : LaneEnds) → at l.ends.items k e → (e.outs.items ≡ []) × (e.ins.items ≡ []);
}
