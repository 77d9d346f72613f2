use Rattle.std.proofs.Common.{◌≡◌, ◌<◌, ◌-◌, ap, arith, sym, subst, ◌∙◌}
use Rattle.std.proofs.lemmas.Result.{err_from_is_err_and}
use Rattle.ulfm_log.specs.Proposal.{last_shrink}
use Rattle.ulfm_rank.proofs.Common.{Topic, nth_shrink, round_of, shrinks}
use Rattle.ulfm_rank.specs.Checks.{adopt_checks, FailsOrStarves, Passes}
use Rattle.ulfm_rank.proofs.rank.Rank.adopt.Goals as goal

pub unreachable-requires : goal.unreachable-requires
unreachable-requires c =
    let log = c.args.self.now.state.log in
    let on = c.args.comm.context in
    let k = shrinks log on.number - 1 in
    let topic = c.last_round-topic.ensures in
    let about : c.args.decision.topic ≡ last_shrink log on = c.in_ok-adopt_on.ensures.about ∙ topic in
    let fits : nth_shrink k c.args.decision.topic.context.number < 35184372088832 = c.args.decision.lawful.has_shrink k (ap (λ (t : Topic). t.purpose) about) in
    let same : nth_shrink k c.args.decision.topic.context.number ≡ nth_shrink c.round.result on.number =
    ap (λ (t : Topic). nth_shrink k t.context.number) about ∙ ap (λ r. nth_shrink r on.number) (sym (c.round.ensures ∙ ap (λ (t : Topic). round_of t.purpose) topic)) in
    omega (arith, fits, same, c.in-None.ensures)

pub returns-in_err-adopt_on-clause-refused : goal.returns-in_err-adopt_on-clause-refused
returns-in_err-adopt_on-clause-refused c =
    let e = err_from_is_err_and c.from_residual.result c.from_residual.ensures.1 in
    rw (e.1, e.2) (subst (λ (t : Topic). FailsOrStarves (adopt_checks c.args.self.now.state t c.args.decision) c.in_err-adopt_on.field-0.0) c.last_round-topic.ensures c.in_err-adopt_on.ensures.refused)

pub returns-clause-accepted : goal.returns-clause-accepted
returns-clause-accepted c = subst (λ (t : Topic). Passes (adopt_checks c.args.self.now.state t c.args.decision)) c.last_round-topic.ensures c.in_ok-adopt_on.ensures.accepted
