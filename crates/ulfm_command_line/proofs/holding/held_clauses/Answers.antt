use Rattle.std.proofs.Common.{ap, filter, rules, ◌∙◌}
use Rattle.std.proofs.lemmas.Fn.{filter_same}
use Rattle.ulfm_command_line.specs.Holding.{is_expected}
use Rattle.ulfm_command_line.specs.Stopped.{asked_view}
use Rattle.ulfm_command_line.proofs.holding.held_clauses.Goals as goal

pub returns : goal.returns
returns c =
    let test = is_expected (asked_view c.args.read.now) c.args.stops.now in
    filter_same _ test _ (λ x b f' k. search rules) _ _ c.retain.ensures.filtered ∙ ap (filter test) (c.in_ok-kept.ensures ∙ c.expected.ensures)
