use Rattle.ulfm_world.proofs.Safe.{settled-reached, adopts-held}
use Rattle.ulfm_world.proofs.laws.adopted_as_held.Goals as goal

pub returns : goal.returns
returns c = λ n room w small h. adopts-held n w (settled-reached n room w small h)
