use Rattle.std.proofs.Common.{ℕ, take, ◌*◌}
use Rattle.ulfm_match.proofs.Common.{Pattern, Admits, NoneOf}
use Rattle.ulfm_match.proofs.recent.pass_over_receives.Given as goal

abbrev pub invariant-loop-i : goal.invariant-loop-i
invariant-loop-i l = NoneOf (λ (y : ℕ × Pattern). Admits y.1 l.envelope) (take (l.i * 4) l.receives)
