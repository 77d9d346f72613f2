use Rattle.std.proofs.Common.{ap}
use Rattle.ulfm_carrier.proofs.Owners.{parts, has_back}
use Rattle.ulfm_carrier.proofs.own_inbox.divide.Goals as goal

pub another-part-requires-clause-rule : goal.another-part-requires-clause-rule
another-part-requires-clause-rule c = parts _ _ c.requires.own.1

pub absorb-requires-clause-rule : goal.absorb-requires-clause-rule
absorb-requires-clause-rule c = has_back _ _ _ _ (ap (λ v. v.role) c.another-part.ensures.rule.1)
