use Rattle.ulfm_carrier.proofs.Roles.{makes}
use Rattle.ulfm_carrier.proofs.inbox.next_sender.Goals as goal

pub another-requires-clause-rule : goal.another-requires-clause-rule
another-requires-clause-rule c = makes _ _ c.requires.1
