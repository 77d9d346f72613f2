use Rattle.std.proofs.Common.{◌<◌, ℕ}
use Rattle.ulfm_run.specs.inside.Listed.{IsProposedByRank}
use Rattle.ulfm_run.proofs.proposing.is_proposed_by_any.Given as goal

abbrev pub invariant-loop-rank : goal.invariant-loop-rank
invariant-loop-rank l = (r : ℕ) → r < l.rank → IsProposedByRank l.reports l.fronts r l.decision → ⊥
