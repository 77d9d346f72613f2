use Rattle.std.proofs.Common.{ℕ, take, Contains}
use Rattle.ulfm_match.proofs.Common.{Admits, Letter, Passes}
use Rattle.ulfm_match.proofs.search.first_letter.Given as goal

abbrev pub invariant-loop-k : goal.invariant-loop-k
invariant-loop-k l = (m : ℕ) → Contains (take l.k l.numbers.items) m → Passes (λ (letter : Letter). Admits l.pattern letter.envelope) l.kept m → ⊥
