use Rattle.std.proofs.Common.{◌≡◌, ◌<◌, ℕ, false}
use Rattle.ulfm_log.proofs.Common.{differ, entry_at}
use Rattle.ulfm_log.proofs.adopting.contradicts.Given as goal

abbrev pub invariant-loop-rank : goal.invariant-loop-rank
invariant-loop-rank l = (k : ℕ) → k < l.rank → differ (entry_at l.decision.entries k) (entry_at l.entries k) ≡ false
