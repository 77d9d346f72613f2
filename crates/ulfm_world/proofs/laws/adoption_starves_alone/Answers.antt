use Rattle.ulfm_world.proofs.Read.{world-reached}
use Rattle.ulfm_world.proofs.Safe.{settled-reached}
use Rattle.ulfm_world.proofs.Decided.{starves-alone}
use Rattle.ulfm_world.proofs.laws.adoption_starves_alone.Goals as goal

pub returns : goal.returns
returns c = λ n room w small h. starves-alone w (world-reached n room w small h) (settled-reached n room w small h)
