use Rattle.std.proofs.Common.{ℕ, take, Contains}
use Rattle.ulfm_match.proofs.Common.{Admits, Pattern, Passes}
use Rattle.ulfm_match.proofs.search.first_receive.Given as goal

abbrev pub invariant-loop-k : goal.invariant-loop-k
invariant-loop-k l = (m : ℕ) → Contains (take l.k l.numbers.items) m → Passes (λ (pattern : Pattern). Admits pattern l.envelope) l.waiting m → ⊥
