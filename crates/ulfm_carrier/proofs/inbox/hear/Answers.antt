use Rattle.ulfm_carrier.proofs.Roles.{hears}
use Rattle.ulfm_carrier.proofs.inbox.hear.Goals as goal

pub absorb-requires-clause-rule : goal.absorb-requires-clause-rule
absorb-requires-clause-rule c = hears _ _ _ _ c.requires.inlet.1 c.requires.receipt.1
