use Rattle.std.proofs.Common.{ap, ap₂, ◌∙◌}
use Rattle.std.proofs.lemmas.Result.{IfOk-weaker}
use Rattle.clap.specs.Words.{Rule, app_of, with_rule}
use Rattle.ulfm_command_line.proofs.subcommands.of_pictures.Goals as goal

pub returns-clause-app : goal.returns-clause-app
returns-clause-app c =
    let first = c.in_ok-command.ensures.shape c.plain_flag-mermaid.ensures.local ∙ ap (λ (rule : Rule). with_rule (app_of c.args.command) rule) c.plain_flag-mermaid.ensures.rule in
    IfOk-weaker c.arg-2.result _ _ (λ r h. h.shape c.plain_flag-text.ensures.local ∙ ap₂ with_rule first c.plain_flag-text.ensures.rule) c.arg-2.ensures
