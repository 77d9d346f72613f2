use Rattle.std.proofs.Common.{◌≡◌, ◌≤◌, vec_len, vec_capacity}
use Rattle.ulfm_board.proofs.register.new_register.Given as goal

abbrev pub invariant-loop : goal.invariant-loop
invariant-loop l = (vec_len l.chunks ≡ l.counter) × (32 ≤ vec_capacity l.chunks)
