use Rattle.ulfm_run.proofs.Common.{honest-answers}
use Rattle.ulfm_run.proofs.Working.{played}
use Rattle.ulfm_run.proofs.worker.Worker.play.Goals as goal

pub returns-clause-played : goal.returns-clause-played
returns-clause-played g c =
    played c.go_through.new.self.worker.player c.args.self.end c.report.result
    c.requires.place c.go_through.ensures.keeps.same_end (c.go_through.ensures.keeps.at_work c.requires.at_work) c.go_through.ensures.done c.report.ensures.rank c.report.ensures.steps

pub returns-clause-answers : goal.returns-clause-answers
returns-clause-answers g c =
    honest-answers (g.D.Decider.known c.go_through.new.self.worker.decider) c.go_through.new.self.worker.player.player c.report.result
    (c.go_through.ensures.keeps.honest c.requires.honest) c.go_through.ensures.done.closed c.report.ensures.rank c.report.ensures.steps c.me.ensures.paired
