use Rattle.ulfm_world.proofs.Safe.{settled-reached, enters-once}
use Rattle.ulfm_world.proofs.laws.entered_once.Goals as goal

pub returns : goal.returns
returns c = λ n room w small h. enters-once n w (settled-reached n room w small h)
