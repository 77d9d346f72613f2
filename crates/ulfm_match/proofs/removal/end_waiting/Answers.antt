use Rattle.std.proofs.Common.{rules}
use Rattle.ulfm_match.proofs.Common.{filter-RetainsPairs}
use Rattle.ulfm_match.proofs.removal.end_waiting.Goals as goal

pub returns-clause-left : goal.returns-clause-left
returns-clause-left c = filter-RetainsPairs _ _ _ (λ k v b w g call. search rules) _ _ c.retain.ensures.filtered
