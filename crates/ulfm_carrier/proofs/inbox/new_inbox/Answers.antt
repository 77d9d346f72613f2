use Rattle.ulfm_carrier.proofs.Rule.{begins}
use Rattle.ulfm_carrier.proofs.inbox.new_inbox.Goals as goal

pub ruled-requires-clause-rule : goal.ruled-requires-clause-rule
ruled-requires-clause-rule c = begins
