use Rattle.std.proofs.Common.{◌∙◌}
use Rattle.ulfm_run.proofs.Common.{JobView, script_at, WentOn}
use Rattle.ulfm_run.proofs.Working.{goes-on, stays-over}
use Rattle.ulfm_run.proofs.at_work.AtWork.serve.Goals as goal

pub loop-left-preserved : goal.loop-left-preserved
loop-left-preserved g c =
    let same = c.loop-left.invariant.same_job in
    let on = goes-on (λ (j : JobView) r. WentOn (script_at j r) j.turns c.loop-left.self.worker.player.player c.go_on-moved.new.self.worker.player.player c.go_on-moved.result.1) same.0 same.1 c.loop-left.invariant.keeps c.go_on-moved.ensures.keeps c.go_on-moved.ensures.polls in
    record {
      same_job = (c.go_on-moved.ensures.same_job.0 ∙ same.0, c.go_on-moved.ensures.same_job.1 ∙ same.1);
      keeps = on.0;
      over = stays-over (script_at c.args.self.now.job.now c.args.self.now.me) c.args.self.now.job.now.turns c.go_on-moved.result.1 c.loop-left.self.worker.player.player c.go_on-moved.new.self.worker.player.player c.loop-left.invariant.over on.1;
    }
