use Rattle.ulfm_world.proofs.Read.{world-reached}
use Rattle.ulfm_world.proofs.Safe.{settled-reached}
use Rattle.ulfm_world.proofs.Shrunk.{has-one_group}
use Rattle.ulfm_world.proofs.laws.one_group.Goals as goal

pub returns : goal.returns
returns c = λ n room w small h. has-one_group w (settled-reached n room w small h) (world-reached n room w small h)
