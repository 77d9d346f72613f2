use Rattle.ulfm_base.proofs.Children.{greater}
use Rattle.ulfm_base.proofs.law.children_are_greater.Goals as goal

pub returns : goal.returns
returns c = greater
