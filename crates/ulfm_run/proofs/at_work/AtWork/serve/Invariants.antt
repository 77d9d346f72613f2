use Rattle.std.proofs.Common.{◌≡◌}
use Rattle.ulfm_run.proofs.Common.{script_at}
use Rattle.ulfm_run.specs.inside.Turns.{IsOver, Keeps}
use Rattle.ulfm_run.proofs.at_work.AtWork.serve.Given as goal

abbrev pub invariant-loop-left : goal.invariant-loop-left
invariant-loop-left g l = record {
  same_job : (l.self.job.now ≡ l.fn.self.job.now) × (l.self.me ≡ l.fn.self.me);
  keeps : Keeps g.E.Ends.name g.E.Ends.place g.E.Ends.count g.E.Ends.pushed g.E.Ends.taken g.E.Ends.ready g.D.Decider.board g.D.Decider.known l.fn.self.job.now l.fn.self.me l.fn.self.worker.player l.fn.self.worker.end l.fn.self.worker.decider l.self.worker.player l.self.worker.end l.self.worker.decider;
  over : IsOver (script_at l.fn.self.job.now l.fn.self.me) l.self.worker.player.player;
}

abbrev pub decreases-loop-left : goal.decreases-loop-left
decreases-loop-left g l = l.left
