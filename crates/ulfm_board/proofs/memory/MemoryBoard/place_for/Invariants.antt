use Rattle.std.proofs.Common.{◌≡◌, ◌+◌, drop}
use Rattle.ulfm_board.specs.inside.Places.{place_for}
use Rattle.ulfm_board.proofs.memory.MemoryBoard.place_for.Given as goal

abbrev pub invariant-loop-place : goal.invariant-loop-place
invariant-loop-place l = place_for l.number l.self ≡ l.place + place_for l.number (drop l.place l.self)
