use Rattle.std.proofs.Common.{ap, inr}
use Rattle.ulfm_carrier.proofs.Rule.{takes, sees_own}
use Rattle.ulfm_carrier.proofs.own_inbox.receive_own.Goals as goal

pub pop_as-found-requires-clause-rule : goal.pop_as-found-requires-clause-rule
pop_as-found-requires-clause-rule g c = let role = ap (λ v. v.role) c.unite.ensures.own.1 in (takes _ _ (inr role), sees_own _ _ role)
