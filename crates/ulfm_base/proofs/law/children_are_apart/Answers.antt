use Rattle.ulfm_base.proofs.Children.{apart}
use Rattle.ulfm_base.proofs.law.children_are_apart.Goals as goal

pub returns : goal.returns
returns c = apart
