use Rattle.std.proofs.Common.{Bool, List, [], ◌∷◌, ◌++◌, ◌∙◌, ap, cond, filter, map}
use Rattle.ulfm_outcomes_list.specs.Listed.{StepView, step_view}
use Rattle.ulfm_command_line.specs.Wish.{choice_view}
use Rattle.ulfm_outcomes_reply.specs.Chosen.{is_chosen}
use Rattle.ulfm_outcomes_reply.proofs.Judged.{filter-more}
use Rattle.ulfm_outcomes_reply.proofs.picked_steps.kept.Goals as goal

pub loop-at-preserved : goal.loop-at-preserved
loop-at-preserved c =
    let p = is_chosen (choice_view c.args.choice) (map (λ p. p.now) c.args.parts.now) c.args.names.now in
    let before = map step_view c.loop-at.kept.items in
    let at = step_view c.at-item.result in
    c.in_ok-push_if.ensures ∙ ap (λ (b : Bool). before ++ cond b (at ∷ []) []) c.in_ok-is.ensures ∙ ap (λ (steps : List StepView). steps ++ filter p (at ∷ [])) c.loop-at.invariant
    ∙ filter-more p step_view c.args.steps.now c.loop-at.at-index c.at-item.result c.loop-at-test.true c.at-item.is
