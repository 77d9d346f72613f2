use Rattle.std.proofs.Common.{ℕ, take}
use Rattle.ulfm_match.proofs.Common.{Letter, Admits, NoneOf}
use Rattle.ulfm_match.proofs.recent.first_suited.Given as goal

abbrev pub invariant-loop-k : goal.invariant-loop-k
invariant-loop-k l = NoneOf (λ (y : ℕ × Letter). Admits l.pattern y.1.envelope) (take l.k l.letters)
