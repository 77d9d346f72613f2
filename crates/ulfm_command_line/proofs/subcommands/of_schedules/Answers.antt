use Rattle.std.proofs.Common.{ap, ◌∙◌}
use Rattle.std.proofs.lemmas.Result.{IfOk-weaker}
use Rattle.clap.specs.Words.{Rule, app_of, with_rule}
use Rattle.ulfm_command_line.specs.Rules.{of_pictures}
use Rattle.ulfm_command_line.proofs.subcommands.of_schedules.Goals as goal

pub returns-clause-app : goal.returns-clause-app
returns-clause-app c =
    let first = c.in_ok-command.ensures.shape c.plain_flag-draw.ensures.local ∙ ap (λ (rule : Rule). with_rule (app_of c.args.command) rule) c.plain_flag-draw.ensures.rule in
    IfOk-weaker c.of_pictures.result _ _ (λ r h. h ∙ ap of_pictures first) c.of_pictures.ensures.app
