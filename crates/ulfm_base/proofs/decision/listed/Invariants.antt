use Rattle.std.proofs.Common.{◌≡◌, ℕ, ◌<◌, ◌≤◌, false}
use Rattle.ulfm_base.specs.Decision.{is_listed}
use Rattle.ulfm_base.specs.RankSet.{has}
use Rattle.ulfm_base.proofs.decision.listed.Given as goal

abbrev pub invariant-loop-number : goal.invariant-loop-number
invariant-loop-number l = ((k : ℕ) → k < l.number → has l.ranks k ≡ is_listed l.entries k) × ((k : ℕ) → l.number ≤ k → has l.ranks k ≡ false)
