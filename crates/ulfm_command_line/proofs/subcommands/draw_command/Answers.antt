use Rattle.std.proofs.Common.{rules, ap, ap₂, codes, ◌≡◌, ◌∙◌}
use Rattle.std.proofs.lemmas.Result.{IfOk-weaker}
use Rattle.clap.specs.Words.{app_of, new_app, with_rule}
use Rattle.ulfm_command_line.specs.Rules.{of_pictures, of_stopped}
use Rattle.ulfm_command_line.proofs.subcommands.draw_command.Goals as goal

pub returns-clause-app : goal.returns-clause-app
returns-clause-app c =
    let about_is : app_of c.after_help.result ≡ new_app (codes "draw") = search rules in
    let first = c.in_ok-command.ensures.shape c.turns_option.ensures.local ∙ ap₂ with_rule about_is c.turns_option.ensures.rule in
    let second = c.in_ok-command-2.ensures.app ∙ ap of_pictures first in
    IfOk-weaker c.of_stopped.result _ _ (λ r h. h ∙ ap of_stopped second) c.of_stopped.ensures.app
