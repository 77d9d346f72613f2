use Rattle.std.proofs.Common.{◌≡◌, cond, length, None}
use Rattle.ulfm_log.proofs.Common.{entry_at, is_member}
use Rattle.ulfm_log.proofs.Proposing.{IsFilled}
use Rattle.ulfm_log.proofs.proposal.entries_of.Given as goal

abbrev pub invariant-loop-number : goal.invariant-loop-number
invariant-loop-number l = (length l.listed ≡ 8) × IsFilled (λ k. cond (is_member l.group k) (entry_at l.entries k) None) None l.listed l.number
