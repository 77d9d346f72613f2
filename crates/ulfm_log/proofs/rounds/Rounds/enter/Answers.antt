use Rattle.std.proofs.Common.{◌+◌, ◌<◌, ◌^◌, ◌&&◌, true, false, cond, ap, subst, sym, ◌∙◌}
use Rattle.ulfm_base.specs.Topic.{is_round_on}
use Rattle.ulfm_log.specs.Decisive.{RoundsView, rounds_on}
use Rattle.ulfm_log.proofs.Counts.{entered_agreement, entered_shrink}
use Rattle.ulfm_log.proofs.rounds.Rounds.enter.Goals as goal

pub count_one-requires : goal.count_one-requires
count_one-requires c = subst (λ (r : RoundsView). rounds_on r true c.args.topic.context.number < 2 ^ 63) (sym c.self.view_is) (c.requires true)

pub count_one-requires-2 : goal.count_one-requires-2
count_one-requires-2 c = subst (λ (r : RoundsView). rounds_on r false c.args.topic.context.number < 2 ^ 63) (sym c.self.view_is) (c.requires false)

pub returns-then-is_agreement-clause-counts : goal.returns-then-is_agreement-clause-counts
returns-then-is_agreement-clause-counts c g d =
    let a = c.self.inside in
    entered_agreement c.args.topic _ _ _ (a.agreements.room && a.shrinks.room) (c.count_one.new.counts.room && a.shrinks.room) c.in_ok-count_one.ensures.counts (sym c.is_agreement.ensures ∙ c.if-is_agreement.true) g d
    ∙ ap (λ (r : RoundsView). rounds_on r g d + cond (is_round_on g d c.args.topic) 1 0) c.self.view_is

pub returns-clause-counts : goal.returns-clause-counts
returns-clause-counts c g d =
    let a = c.self.inside in
    entered_shrink c.args.topic _ _ _ (a.agreements.room && a.shrinks.room) (a.agreements.room && c.count_one-2.new.counts.room) c.in_ok-count_one-2.ensures.counts (sym c.is_agreement.ensures ∙ c.if-is_agreement.false) g d
    ∙ ap (λ (r : RoundsView). rounds_on r g d + cond (is_round_on g d c.args.topic) 1 0) c.self.view_is
