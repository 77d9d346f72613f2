use Rattle.ulfm_base.proofs.Children.{first_children}
use Rattle.ulfm_base.proofs.law.first_children_have_numbers.Goals as goal

pub returns : goal.returns
returns c = first_children
