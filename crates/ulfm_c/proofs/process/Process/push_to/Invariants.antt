use Rattle.std.proofs.Common.{◌≡◌, length}
use Rattle.ulfm_log.specs.State.{outbox}
use Rattle.ulfm_c.specs.Turning.{GoesOn}
use Rattle.ulfm_c.specs.inside.Pushing.{OthersStayStuck}
use Rattle.ulfm_c.proofs.process.Process.push_to.Given as goal

abbrev pub invariant-loop-moved : goal.invariant-loop-moved
invariant-loop-moved l = GoesOn l.fn.self.view l.self.view l.moved × OthersStayStuck l.fn.self.view l.self.view l.fn.dest × (l.self.ready ≡ l.fn.self.ready)

abbrev pub decreases-loop-moved : goal.decreases-loop-moved
decreases-loop-moved l = length (outbox l.self.view.rank l.fn.dest)
