use Rattle.std.proofs.Common.{ap}
use Rattle.ulfm_carrier.proofs.Owners.{lends, owns}
use Rattle.ulfm_carrier.proofs.own_inbox.unite.Goals as goal

pub another-lent-requires-clause-rule : goal.another-lent-requires-clause-rule
another-lent-requires-clause-rule c = lends _ _ c.requires.inlet.1

pub absorb-requires-clause-rule : goal.absorb-requires-clause-rule
absorb-requires-clause-rule c = owns _ _ _ _ c.requires.own.1 (ap (λ v. v.role) c.another-lent.ensures.rule.1)
