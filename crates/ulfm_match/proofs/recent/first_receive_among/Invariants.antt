use Rattle.std.proofs.Common.{ℕ, take}
use Rattle.ulfm_match.proofs.Common.{Pattern, Admits, NoneOf}
use Rattle.ulfm_match.proofs.recent.first_receive_among.Given as goal

abbrev pub invariant-loop-k : goal.invariant-loop-k
invariant-loop-k l = NoneOf (λ (y : ℕ × Pattern). Admits y.1 l.envelope) (take l.k l.receives)
