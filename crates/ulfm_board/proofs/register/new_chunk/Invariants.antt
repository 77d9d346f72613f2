use Rattle.std.proofs.Common.{◌≡◌, ◌≤◌, vec_len, vec_capacity}
use Rattle.ulfm_board.proofs.register.new_chunk.Given as goal

abbrev pub invariant-loop : goal.invariant-loop
invariant-loop l = (vec_len l.slots ≡ l.counter) × (l.many ≤ vec_capacity l.slots)
