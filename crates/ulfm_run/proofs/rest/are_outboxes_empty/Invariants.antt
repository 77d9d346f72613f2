use Rattle.std.proofs.Common.{◌≡◌, ◌<◌, ℕ, []}
use Rattle.ulfm_run.proofs.Common.{at, Report, outbox}
use Rattle.ulfm_run.proofs.rest.are_outboxes_empty.Given as goal

abbrev pub invariant-loop-sender : goal.invariant-loop-sender
invariant-loop-sender l = (s : ℕ) (sender : Report) → s < l.sender-index → at l.ranks.items s sender → l.d < sender.rank.ranks → outbox sender.rank l.d ≡ []
