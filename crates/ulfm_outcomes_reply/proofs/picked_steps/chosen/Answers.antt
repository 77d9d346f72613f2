use Rattle.std.proofs.Common.{ℕ, List, ◌∙◌, ap, filter, map}
use Rattle.std.proofs.lemmas.Result.{IfOk-weaker}
use Rattle.std.specs.Borrow.{Bor}
use Rattle.ulfm_outcomes_list.specs.Listed.{StepView, step_view}
use Rattle.ulfm_outcomes_list.specs.declared.job_step.JobStep.{JobStep}
use Rattle.ulfm_reader.specs.declared.name.Name.{Name}
use Rattle.ulfm_command_line.specs.Wish.{choice_view}
use Rattle.ulfm_outcomes_reply.specs.Chosen.{is_chosen, parts_of}
use Rattle.ulfm_outcomes_reply.proofs.picked_steps.chosen.Goals as goal

pub returns : goal.returns
returns g c =
    let choice = choice_view c.args.search.now.choice in
    let names = c.args.asked.now.names.items in
    let kept : List (List ℕ) → List Name → List StepView → List StepView = λ parts ns steps. filter (is_chosen choice parts ns) steps in
    let some = map step_view c.as_slice-2.result.now in
    let parted = ap (λ (ps : List (Bor (List ℕ))). kept (map (λ p. p.now) ps) c.as_slice-names.result.now some) c.as_slice.ensures.value ∙ ap (λ (ps : List (List ℕ)). kept ps c.as_slice-names.result.now some) c.in_ok-parts.ensures in
    let named = ap (λ (ns : List Name). kept (parts_of choice.only) ns some) c.as_slice-names.ensures.value in
    let all = ap (λ (ss : List JobStep). kept (parts_of choice.only) names (map step_view ss)) c.as_slice-2.ensures.value ∙ ap (kept (parts_of choice.only) names) c.in_ok-steps.ensures in
    IfOk-weaker c.kept.result _ _ (λ steps h. h ∙ parted ∙ named ∙ all) c.kept.ensures
