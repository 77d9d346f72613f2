use Rattle.std.proofs.Common.{All, sym, subst, ◌∙◌}
use Rattle.std.proofs.lemmas.List.{take_all}
use Rattle.ulfm_command_line.specs.Stopped.{asked_view}
use Rattle.ulfm_outcomes_reply.specs.EachPlace.{IsUndrawn}
use Rattle.ulfm_outcomes_reply.specs.inside.Judging.{IsListedOf}
use Rattle.ulfm_outcomes_reply.proofs.Picture.{drawn-first, drawn-next}
use Rattle.ulfm_outcomes_reply.proofs.drawing.first_drawn.Goals as goal

pub drawn_there-requires : goal.drawn_there-requires
drawn_there-requires g c = subst (IsListedOf (asked_view c.args.asked.now) c.args.search.now.options.limit) (sym c.one-item.is) (c.requires c.loop-one.one-index c.one-item.result c.loop-one-test.true)

pub returns-then-is_some : goal.returns-then-is_some
returns-then-is_some g c =
    drawn-first c.args.search.now.form c.args.search.now.options (asked_view c.args.asked.now) c.args.listed.now c.loop-one.one-index c.one-item.result c.loop-one-test.true c.one-item.is c.in_ok-drawn.drawn c.loop-one.invariant c.in_ok-drawn.ensures
    (sym c.is_some.ensures ∙ c.if-is_some.true)

pub loop-one-preserved : goal.loop-one-preserved
loop-one-preserved g c =
    drawn-next c.args.search.now.form c.args.search.now.options (asked_view c.args.asked.now) c.args.listed.now c.loop-one.one-index c.one-item.result c.loop-one-test.true c.one-item.is c.in_ok-drawn.drawn c.loop-one.invariant c.in_ok-drawn.ensures
    (sym c.is_some.ensures ∙ c.if-is_some.false)

pub returns : goal.returns
returns g c = subst (All (IsUndrawn c.args.search.now.options (asked_view c.args.asked.now))) (take_all c.loop-one.one-index c.args.listed.now c.loop-one-test.false) c.loop-one.invariant
