use Rattle.std.proofs.Common.{rules, ap, ap₂, codes, false, ◌≡◌, ◌∙◌}
use Rattle.std.proofs.lemmas.Result.{IfOk-weaker}
use Rattle.clap.specs.Words.{app_of, new_app, with_rule}
use Rattle.clap.specs.declared.builder.command.Command.TheViews.{out-Command}
use Rattle.ulfm_command_line.specs.Rules.{of_stopped}
use Rattle.ulfm_command_line.proofs.Flags.{either}
use Rattle.ulfm_command_line.proofs.subcommands.run_command.Goals as goal

pub returns-clause-app : goal.returns-clause-app
returns-clause-app c =
    let named : app_of c.after_help.result ≡ new_app (codes "run") = search rules in
    let first = c.in_ok-command.ensures.shape c.carrier_option.ensures.local ∙ ap₂ with_rule named c.carrier_option.ensures.rule in
    let second = c.in_ok-command-2.ensures.shape c.strict_flag.ensures.local ∙ ap₂ with_rule first c.strict_flag.ensures.rule in
    let third = c.in_ok-command-3.ensures.shape c.turns_option.ensures.local ∙ ap₂ with_rule second c.turns_option.ensures.rule in
    let fourth = c.in_ok-command-4.ensures.shape c.number_option-repeat.ensures.local ∙ ap₂ with_rule third c.number_option-repeat.ensures.rule in
    let fifth = c.in_ok-command-5.ensures.shape c.brief_flag-brief.ensures.local ∙ ap₂ with_rule fourth c.brief_flag-brief.ensures.rule in
    IfOk-weaker c.of_stopped.result _ _ (λ r h. h ∙ ap of_stopped fifth) c.of_stopped.ensures.app

pub of_stopped-requires : goal.of_stopped-requires
of_stopped-requires c =
    let plain : (out-Command c.after_help.result).has_globals ≡ false = search rules in
    let first = c.in_ok-command.ensures.globals ∙ ap₂ either plain c.carrier_option.ensures.local in
    let second = c.in_ok-command-2.ensures.globals ∙ ap₂ either first c.strict_flag.ensures.local in
    let third = c.in_ok-command-3.ensures.globals ∙ ap₂ either second c.turns_option.ensures.local in
    let fourth = c.in_ok-command-4.ensures.globals ∙ ap₂ either third c.number_option-repeat.ensures.local in
    c.in_ok-command-5.ensures.globals ∙ ap₂ either fourth c.brief_flag-brief.ensures.local
