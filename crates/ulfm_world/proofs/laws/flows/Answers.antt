use Rattle.ulfm_world.proofs.Read.{world-reached, flows-world}
use Rattle.ulfm_world.proofs.laws.flows.Goals as goal

pub returns : goal.returns
returns c = λ n room w small h. flows-world w (world-reached n room w small h)
