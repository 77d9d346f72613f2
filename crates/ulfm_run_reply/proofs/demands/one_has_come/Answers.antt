use Rattle.std.proofs.Common.{◌∙◌}
use Rattle.ulfm_run_reply.specs.Asking.{has_come}
use Rattle.ulfm_run_reply.proofs.Rows.{any-row}
use Rattle.ulfm_run_reply.proofs.demands.one_has_come.Goals as goal

pub returns : goal.returns
returns c = c.one_of_these.ensures ∙ any-row (has_come c.args.job.now c.args.reports.now) c.args.rows.now
