use Rattle.std.proofs.Common.{◌≡◌, ◌≤◌, ◌+◌, ◌^◌}
use Rattle.ulfm_base.proofs.context.block_size.Given as goal

abbrev pub invariant-loop : goal.invariant-loop
invariant-loop l = (l.size ≡ 2 ^ l.counter) × (l.size ≤ l.n + 1) × (l.size ≤ 2 ^ 66)
