use Rattle.ulfm_match.proofs.Common.{Admits, Pattern}
use Rattle.ulfm_match.proofs.Indexed.{none_of_none}
use Rattle.ulfm_match.proofs.taking.take_waiting.Goals as goal

pub returns-then-is_empty-clause-taken : goal.returns-then-is_empty-clause-taken
returns-then-is_empty-clause-taken c = none_of_none (λ (p : Pattern). Admits p c.args.envelope.now) c.args.waiting.now (c.is_empty.ensures.0 c.if-is_empty.true)
