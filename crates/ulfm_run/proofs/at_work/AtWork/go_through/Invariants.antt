use Rattle.std.proofs.Common.{◌≡◌}
use Rattle.ulfm_run.proofs.Common.{polls_left, script_at}
use Rattle.ulfm_run.specs.inside.Turns.{Keeps}
use Rattle.ulfm_run.proofs.at_work.AtWork.go_through.Given as goal

abbrev pub invariant-loop : goal.invariant-loop
invariant-loop g l = record {
  same_job : (l.self.job.now ≡ l.fn.self.job.now) × (l.self.me ≡ l.fn.self.me);
  keeps : Keeps g.E.Ends.name g.E.Ends.place g.E.Ends.count g.E.Ends.pushed g.E.Ends.taken g.E.Ends.ready g.D.Decider.board g.D.Decider.known l.fn.self.job.now l.fn.self.me l.fn.self.worker.player l.fn.self.worker.end l.fn.self.worker.decider l.self.worker.player l.self.worker.end l.self.worker.decider;
}

abbrev pub decreases-loop : goal.decreases-loop
decreases-loop g l = polls_left (script_at l.fn.self.job.now l.fn.self.me) l.fn.self.job.now.turns l.self.worker.player.player
