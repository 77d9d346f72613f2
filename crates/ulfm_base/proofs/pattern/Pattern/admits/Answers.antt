use Rattle.std.proofs.Common.{arith}
use Rattle.std.proofs.lemmas.Grind.{common_steps}
use Rattle.ulfm_base.proofs.pattern.Pattern.admits.Goals as goal

pub returns : goal.returns
returns c = (λ t. record { context = grind (arith, common_steps); source = grind (arith, common_steps); tag = c.admits_tag.ensures.0 t }, λ h. c.admits_tag.ensures.1 h.tag)
