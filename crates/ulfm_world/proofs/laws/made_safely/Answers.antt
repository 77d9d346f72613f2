use Rattle.ulfm_world.proofs.Made.{made-safely}
use Rattle.ulfm_world.proofs.laws.made_safely.Goals as goal

pub returns : goal.returns
returns c = λ n room events w small h. made-safely n room events w small h
