use Rattle.std.proofs.Common.{◌≡◌, ℕ, List, length, None}
use Rattle.ulfm_board.specs.inside.Trail.{GoesOn, names_of, slot_of}
use Rattle.ulfm_board.proofs.trail.Trail.reach.Given as goal

abbrev pub invariant-loop-slot : goal.invariant-loop-slot
invariant-loop-slot l =
    ((more : List ℕ) × GoesOn l.fn.self more l.self)
    × (slot_of l.self.numbers l.number ≡ None)
    × (length l.self.numbers ≡ l.slot)
    × (l.self.register ≡ names_of l.register)
