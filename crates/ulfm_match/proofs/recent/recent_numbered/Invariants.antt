use Rattle.std.proofs.Common.{◌≡◌, ℕ, take}
use Rattle.ulfm_match.proofs.Common.{Letter, NoneOf}
use Rattle.ulfm_match.proofs.recent.recent_numbered.Given as goal

abbrev pub invariant-loop-k : goal.invariant-loop-k
invariant-loop-k l = NoneOf (λ (y : ℕ × Letter). y.0 ≡ l.number) (take l.k l.recent.items)
