use Rattle.std.proofs.Common.{ap, ap₂, ◌∙◌}
use Rattle.std.proofs.lemmas.Result.{IfOk-weaker}
use Rattle.clap.specs.Words.{Rule, app_of, with_rule}
use Rattle.ulfm_command_line.proofs.subcommands.of_chosen.Goals as goal

pub returns-clause-app : goal.returns-clause-app
returns-clause-app c =
    let first = c.in_ok-command.ensures.shape c.only_option.ensures.local ∙ ap (λ (rule : Rule). with_rule (app_of c.args.command) rule) c.only_option.ensures.rule in
    IfOk-weaker c.arg-2.result _ _ (λ r h. h.shape c.plain_flag-notes.ensures.local ∙ ap₂ with_rule first c.plain_flag-notes.ensures.rule) c.arg-2.ensures
