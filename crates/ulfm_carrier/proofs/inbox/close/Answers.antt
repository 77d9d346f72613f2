use Rattle.ulfm_carrier.proofs.Roles.{closes}
use Rattle.ulfm_carrier.proofs.inbox.close.Goals as goal

pub another-requires-clause-rule : goal.another-requires-clause-rule
another-requires-clause-rule c = closes _ _ c.requires.1
