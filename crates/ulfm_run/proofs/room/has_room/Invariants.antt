use Rattle.std.proofs.Common.{◌<◌, ◌≤◌, ℕ, slice_index}
use Rattle.ulfm_run.proofs.Common.{at, Report}
use Rattle.ulfm_report_laws.specs.Room.{taken_behind}
use Rattle.ulfm_run.proofs.room.has_room.Given as goal

abbrev pub invariant-loop-rank : goal.invariant-loop-rank
invariant-loop-rank l = (d : ℕ) (receiver : Report) → d < l.rank → at l.reports d receiver → taken_behind l.source (slice_index l.fronts d) receiver.rank.log ≤ l.capacity
