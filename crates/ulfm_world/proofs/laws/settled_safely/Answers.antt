use Rattle.ulfm_world.proofs.Read.{world-reached}
use Rattle.ulfm_world.proofs.Safe.{settled-reached}
use Rattle.ulfm_world.proofs.Decided.{settles-safely}
use Rattle.ulfm_world.proofs.laws.settled_safely.Goals as goal

pub returns : goal.returns
returns c = λ n room w small h. settles-safely w (world-reached n room w small h) (settled-reached n room w small h)
