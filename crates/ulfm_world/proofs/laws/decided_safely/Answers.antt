use Rattle.ulfm_world.proofs.Safe.{settled-reached, decides-safely}
use Rattle.ulfm_world.proofs.laws.decided_safely.Goals as goal

pub returns : goal.returns
returns c = λ n room w small h. decides-safely n w (settled-reached n room w small h)
