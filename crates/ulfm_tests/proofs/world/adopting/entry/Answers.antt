use Rattle.std.proofs.Common.{arith, ◌<◌, ℕ, ap, subst}
use Rattle.ulfm_base.proofs.Children.{first_children}
use Rattle.ulfm_base.specs.Topic.{round_of}
use Rattle.ulfm_base.specs.Context.{nth_shrink}
use Rattle.ulfm_tests.proofs.world.adopting.entry.Goals as goal

pub invariant_of-result-2-clause-has_shrink : goal.invariant_of-result-2-clause-has_shrink
invariant_of-result-2-clause-has_shrink c = λ round is. subst (λ (k : ℕ). nth_shrink k 0 < 35184372088832) (ap round_of is) (omega (arith, (first_children 0 (omega (arith))).1))
