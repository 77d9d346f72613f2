use Rattle.std.proofs.Common.{rules}
use Rattle.std.proofs.lemmas.Fn.{filter_same}
use Rattle.ulfm_job.specs.Job.{is_of_other}
use Rattle.ulfm_job.proofs.joint.without.Goals as goal

pub returns : goal.returns
returns c = filter_same _ (is_of_other c.args.rank c.args.at) _ (λ x b f' k. search rules) _ _ c.retain.ensures.filtered
