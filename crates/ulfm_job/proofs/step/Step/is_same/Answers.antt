use Rattle.ulfm_job.proofs.Same.{steps_decide}
use Rattle.ulfm_job.proofs.step.Step.is_same.Goals as goal

pub returns : goal.returns
returns c = rw c.eq.ensures (steps_decide c.args.self.now c.args.other.now)
