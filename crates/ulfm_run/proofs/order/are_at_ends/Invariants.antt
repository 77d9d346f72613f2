use Rattle.std.proofs.Common.{◌<◌, ◌≤◌, ℕ, length, slice_index}
use Rattle.ulfm_run.proofs.Common.{at, Report}
use Rattle.ulfm_run.proofs.order.are_at_ends.Given as goal

abbrev pub invariant-loop-rank : goal.invariant-loop-rank
invariant-loop-rank l = (r : ℕ) (told : Report) → r < l.rank → at l.reports r told → length told.rank.log ≤ slice_index l.fronts r
