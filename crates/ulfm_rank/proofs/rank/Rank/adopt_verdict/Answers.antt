use Rattle.std.proofs.Common.{subst}
use Rattle.std.proofs.lemmas.Result.{err_from_is_err_and}
use Rattle.ulfm_rank.proofs.Common.{Topic}
use Rattle.ulfm_rank.specs.Checks.{adopt_checks, FailsOrStarves, Passes}
use Rattle.ulfm_rank.proofs.rank.Rank.adopt_verdict.Goals as goal

pub returns-in_err-adopt_on-clause-refused : goal.returns-in_err-adopt_on-clause-refused
returns-in_err-adopt_on-clause-refused c =
    let e = err_from_is_err_and c.from_residual.result c.from_residual.ensures.1 in
    rw (e.1, e.2) (subst (λ (t : Topic). FailsOrStarves (adopt_checks c.args.self.now.state t c.args.decision) c.in_err-adopt_on.field-0.0) c.last_round.ensures c.in_err-adopt_on.ensures.refused)

pub returns-clause-accepted : goal.returns-clause-accepted
returns-clause-accepted c = subst (λ (t : Topic). Passes (adopt_checks c.args.self.now.state t c.args.decision)) c.last_round.ensures c.in_ok-adopt_on.ensures.accepted
