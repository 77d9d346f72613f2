use Rattle.std.proofs.Common.{◌≡◌, ℕ, take}
use Rattle.ulfm_match.proofs.Common.{Pattern, NoneOf}
use Rattle.ulfm_match.proofs.recent.is_recent.Given as goal

abbrev pub invariant-loop-k : goal.invariant-loop-k
invariant-loop-k l = NoneOf (λ (y : ℕ × Pattern). y.0 ≡ l.number) (take l.k l.recent.items)
