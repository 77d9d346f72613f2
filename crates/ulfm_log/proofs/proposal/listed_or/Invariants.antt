use Rattle.std.proofs.Common.{◌≡◌, ◌<◌, ◌≤◌, ℕ, ◌||◌}
use Rattle.ulfm_log.proofs.Common.{is_listed, has}
use Rattle.ulfm_log.proofs.proposal.listed_or.Given as goal

abbrev pub invariant-loop-number : goal.invariant-loop-number
invariant-loop-number l =
    ((k : ℕ) → k < l.number → has l.found k ≡ (is_listed l.listed k || has l.fn.set k)) × ((k : ℕ) → l.number ≤ k → has l.found k ≡ has l.fn.set k)
