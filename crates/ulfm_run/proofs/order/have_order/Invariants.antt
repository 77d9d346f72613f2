use Rattle.ulfm_run.specs.inside.Walk.{IsWalked, entries_left}
use Rattle.ulfm_run.proofs.order.have_order.Given as goal

abbrev pub invariant-loop-rank : goal.invariant-loop-rank
invariant-loop-rank l = IsWalked l.room l.reports l.fronts

abbrev pub decreases-loop-rank : goal.decreases-loop-rank
decreases-loop-rank l = entries_left l.reports l.fronts
