use Rattle.std.proofs.Common.{ap, is_some, map, sym, ◌∙◌}
use Rattle.std.proofs.lemmas.List.{drop_all}
use Rattle.ulfm_outcomes_list.specs.Listed.{step_view}
use Rattle.ulfm_outcomes_reply.specs.Drawn.{first_left}
use Rattle.ulfm_outcomes_reply.proofs.Picture.{left_here, left_on}
use Rattle.ulfm_outcomes_reply.proofs.drawing.first_left.Goals as goal

pub returns-then-is_some : goal.returns-then-is_some
returns-then-is_some c =
    c.left_of-left.ensures ∙ left_here c.args.found.now c.args.steps.now c.loop-at.at-index c.at-item.result c.loop-at-test.true c.at-item.is _ c.loop-at.invariant (sym (ap is_some c.left_of-left.ensures) ∙ sym c.is_some.ensures ∙ c.if-is_some.true)

pub loop-at-preserved : goal.loop-at-preserved
loop-at-preserved c =
    left_on c.args.found.now c.args.steps.now c.loop-at.at-index c.at-item.result c.loop-at-test.true c.at-item.is _ c.loop-at.invariant (sym (ap is_some c.left_of-left.ensures) ∙ sym c.is_some.ensures ∙ c.if-is_some.false)

pub returns : goal.returns
returns c = sym (ap (λ xs. first_left c.args.found.now (map step_view xs)) (drop_all c.loop-at.at-index c.args.steps.now c.loop-at-test.false)) ∙ c.loop-at.invariant
