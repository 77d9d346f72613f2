use Rattle.std.proofs.Common.{◌≡◌, ◌<◌, ℕ, ap, sym, subst, ◌∙◌}
use Rattle.std.proofs.lemmas.Bool.{leb-false}
use Rattle.ulfm_rank.proofs.Common.{Topic, nth_shrink, round_of, shrinks}
use Rattle.ulfm_rank.proofs.Refusals.{all_pass}
use Rattle.ulfm_rank.specs.Checks.{shrink_checks}
use Rattle.ulfm_rank.proofs.rank.Rank.enter_shrink_with.Goals as goal

pub enter-requires-clause-has_shrink : goal.enter-requires-clause-has_shrink
enter-requires-clause-has_shrink c = λ round same.
    let r = c.args.self.now.state in
    let on = c.args.comm.context in
    let n = shrinks r.log on.number in
    let topic = c.next_round.ensures in
    let low : nth_shrink n on.number < 35184372088832 = leb-false 35184372088832 (nth_shrink n on.number) (all_pass (shrink_checks c.args.again r on) c.in_ok-members.ensures.accepted).1.1.1.1.1.0 in
    let number : n ≡ round = ap round_of (sym (ap (λ (t : Topic). t.purpose) topic) ∙ same) in
    let there : on.number ≡ c.next_round.result.context.number = ap (λ (t : Topic). t.context.number) (sym topic) in
    subst (λ (x : ℕ). nth_shrink round x < 35184372088832) there (subst (λ (k : ℕ). nth_shrink k on.number < 35184372088832) number low)
