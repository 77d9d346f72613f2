use Rattle.std.proofs.Common.{◌≢◌, ◌<◌, ℕ, Some, slice_get}
use Rattle.ulfm_board.proofs.trail.Trail.slot_of.Given as goal

abbrev pub invariant-loop-slot : goal.invariant-loop-slot
invariant-loop-slot l = (k : ℕ) → k < l.slot → slice_get l.self.numbers k ≢ Some l.number
