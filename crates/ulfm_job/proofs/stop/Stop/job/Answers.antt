use Rattle.std.proofs.Common.{arith, ap, ◌∙◌}
use Rattle.ulfm_job.specs.Job.{JobView, step_count}
use Rattle.ulfm_job.proofs.Beside.{counted_more}
use Rattle.ulfm_job.proofs.stop.Stop.job.Goals as goal

pub returns-then-self-clause-counted : goal.returns-then-self-clause-counted
returns-then-self-clause-counted c =
    ap (λ (job : JobView). step_count job.scripts) c.in_ok-with_left.ensures
    ∙ counted_more c.args.job.now c.in_ok-made.made c.args.self.rank c.before-before.result c.script_len.ensures.ranges c.requires.rank (omega (arith, c.before-before.ensures, c.requires.at)) c.in_ok-made.ensures.exact

pub returns-clause-counted : goal.returns-clause-counted
returns-clause-counted c =
    counted_more c.args.job.now c.in_ok-made.made c.args.self.rank c.before-before.result c.script_len.ensures.ranges c.requires.rank (omega (arith, c.before-before.ensures, c.requires.at)) c.in_ok-made.ensures.exact
