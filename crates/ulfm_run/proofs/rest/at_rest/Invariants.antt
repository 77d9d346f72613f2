use Rattle.std.proofs.Common.{◌<◌, ℕ}
use Rattle.ulfm_run.proofs.Common.{at, contents, Report, IsServed, IsRunning}
use Rattle.ulfm_run.proofs.rest.at_rest.Given as goal

abbrev pub invariant-loop-d : goal.invariant-loop-d
invariant-loop-d g l = (k : ℕ) (told : Report) → k < l.d → at l.report.ranks.items k told → IsRunning told → IsServed (contents l.report.residue.inboxes.items) l.report.ranks.items k
