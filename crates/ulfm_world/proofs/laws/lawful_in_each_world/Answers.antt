use Rattle.ulfm_world.proofs.ToldSoFar.{is_lawful_so_far}
use Rattle.ulfm_world.proofs.laws.lawful_in_each_world.Goals as goal

pub returns : goal.returns
returns c = λ n room w small h. is_lawful_so_far n room w small h
