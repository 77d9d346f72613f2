use Rattle.std.proofs.Common.{◌≡◌, drop}
use Rattle.std.specs.FinMap.{find}
use Rattle.std.specs.Ordering.{nat_cmp}
use Rattle.ulfm_board.proofs.memory.MemoryBoard.decision.Given as goal

abbrev pub invariant-loop-place : goal.invariant-loop-place
invariant-loop-place l = find nat_cmp l.number l.self ≡ find nat_cmp l.number (drop l.place l.self)
