use Rattle.std.proofs.Common.{ℕ, take, ◌*◌}
use Rattle.ulfm_match.proofs.Common.{Letter, NoneOf}
use Rattle.ulfm_match.specs.inside.Glance.{Suits}
use Rattle.ulfm_match.proofs.recent.pass_over.Given as goal

abbrev pub invariant-loop-i : goal.invariant-loop-i
invariant-loop-i l = NoneOf (λ (y : ℕ × Letter). Suits l.glance y.1.envelope) (take (l.i * 4) l.letters)
