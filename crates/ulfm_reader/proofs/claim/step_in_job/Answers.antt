use Rattle.ulfm_reader.proofs.Claims.{step-at}
use Rattle.ulfm_reader.proofs.claim.step_in_job.Goals as goal

pub returns : goal.returns
returns c = step-at c.args.job.now.scripts c.args.rank c.args.step c.step.result c.step.ensures
