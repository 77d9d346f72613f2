use Rattle.ulfm_match.proofs.Common.{Admits, Letter}
use Rattle.ulfm_match.proofs.Indexed.{none_of_none}
use Rattle.ulfm_match.proofs.taking.take_kept.Goals as goal

pub returns-then-is_empty-clause-taken : goal.returns-then-is_empty-clause-taken
returns-then-is_empty-clause-taken c = none_of_none (λ (l : Letter). Admits c.args.pattern.now l.envelope) c.args.kept.now (c.is_empty.ensures.0 c.if-is_empty.true)
