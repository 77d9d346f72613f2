use Rattle.ulfm_program.proofs.Expanded.{expands_alike}
use Rattle.ulfm_program.proofs.laws.expands_alike.Goals as goal

pub returns : goal.returns
returns c = expands_alike
