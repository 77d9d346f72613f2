use Rattle.ulfm_world.proofs.Never.{refused_never_happens}
use Rattle.ulfm_world.proofs.laws.refused_never_happens.Goals as goal

pub returns : goal.returns
returns c = refused_never_happens
