use Rattle.std.proofs.Common.{ap, refl, ◌∙◌}
use Rattle.ulfm_carrier.proofs.Common.{same_rank}
use Rattle.ulfm_carrier.specs.Carried.{blank, signed_by}
use Rattle.ulfm_carrier.proofs.carried.Carried.of.Goals as goal

pub returns : goal.returns
returns c = λ i. record { item = (c.sign.ensures ∙ ap (λ source. signed_by source c.args.item) (same_rank _ blank refl)) i }
