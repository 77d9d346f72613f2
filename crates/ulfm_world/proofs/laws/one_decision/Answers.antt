use Rattle.ulfm_world.proofs.Agreed.{adopt-one}
use Rattle.ulfm_world.proofs.Safe.{settled-reached}
use Rattle.ulfm_world.proofs.laws.one_decision.Goals as goal

pub returns : goal.returns
returns c = λ n room w small h. adopt-one (settled-reached n room w small h)
