use Rattle.std.proofs.Common.{◌≡◌, ℕ, take, ◌||◌}
use Rattle.ulfm_log.proofs.Common.{list_any, in_entry, has}
use Rattle.ulfm_log.proofs.proposal.failures_in.Given as goal

abbrev pub invariant-loop-entry : goal.invariant-loop-entry
invariant-loop-entry l = (r : ℕ) → has l.failures r ≡ (has l.fn.known r || list_any (λ entry. in_entry entry r) (take l.entry-index l.listed))
