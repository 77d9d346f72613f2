use Rattle.std.proofs.Common.{◌≡◌, ◌<◌, ℕ}
use Rattle.ulfm_run.specs.inside.Walk.{GoesOn}
use Rattle.ulfm_run.proofs.order.step.Given as goal

abbrev pub invariant-loop-rank : goal.invariant-loop-rank
invariant-loop-rank l = record {
  same : l.fronts ≡ l.fn.fronts;
  stuck : (r : ℕ) → r < l.rank → GoesOn l.room l.reports l.fronts r → ⊥;
}
