use Rattle.std.proofs.Common.{ap, ap₂, ◌∙◌}
use Rattle.std.proofs.lemmas.Result.{IfOk-weaker}
use Rattle.clap.specs.Words.{Rule, app_of, with_rule}
use Rattle.ulfm_command_line.specs.Rules.{of_told}
use Rattle.ulfm_command_line.proofs.subcommands.of_places.Goals as goal

pub returns-clause-app : goal.returns-clause-app
returns-clause-app c =
    let first = c.in_ok-command.ensures.shape c.stops_option-stops.ensures.local ∙ ap (λ (rule : Rule). with_rule (app_of c.args.command) rule) c.stops_option-stops.ensures.rule in
    let second = c.in_ok-command-2.ensures.shape c.number_option-threads.ensures.local ∙ ap₂ with_rule first c.number_option-threads.ensures.rule in
    IfOk-weaker c.of_told.result _ _ (λ r h. h ∙ ap of_told second) c.of_told.ensures.app
