use Rattle.std.proofs.Common.{rules, ap, ap₂, codes, false, ◌≡◌, ◌∙◌}
use Rattle.std.proofs.lemmas.Result.{IfOk-weaker}
use Rattle.clap.specs.Words.{app_of, new_app, with_rule}
use Rattle.clap.specs.declared.builder.command.Command.TheViews.{out-Command}
use Rattle.ulfm_command_line.specs.Rules.{of_places, of_schedules, of_stopped}
use Rattle.ulfm_command_line.proofs.Flags.{either}
use Rattle.ulfm_command_line.proofs.subcommands.outcomes_command.Goals as goal

pub returns-clause-app : goal.returns-clause-app
returns-clause-app c =
    let about_is : app_of c.after_help.result ≡ new_app (codes "outcomes") = search rules in
    let first = c.in_ok-command.ensures.shape c.show_option.ensures.local ∙ ap₂ with_rule about_is c.show_option.ensures.rule in
    let brief = c.in_ok-command-2.ensures.shape c.brief_flag-brief.ensures.local ∙ ap₂ with_rule first c.brief_flag-brief.ensures.rule in
    let second = c.in_ok-command-3.ensures.shape c.strict_flag.ensures.local ∙ ap₂ with_rule brief c.strict_flag.ensures.rule in
    let third = c.in_ok-command-4.ensures.shape c.number_option-limit.ensures.local ∙ ap₂ with_rule second c.number_option-limit.ensures.rule in
    let fourth = c.in_ok-command-5.ensures.shape c.progress_flag.ensures.local ∙ ap₂ with_rule third c.progress_flag.ensures.rule in
    let drawn = c.in_ok-command-6.ensures.app ∙ ap of_schedules fourth in
    let placed = c.in_ok-command-7.ensures.app ∙ ap of_places drawn in
    IfOk-weaker c.of_stopped.result _ _ (λ r h. h ∙ ap of_stopped placed) c.of_stopped.ensures.app

pub of_schedules-requires : goal.of_schedules-requires
of_schedules-requires c =
    let plain : (out-Command c.after_help.result).has_globals ≡ false = search rules in
    let first = c.in_ok-command.ensures.globals ∙ ap₂ either plain c.show_option.ensures.local in
    let brief = c.in_ok-command-2.ensures.globals ∙ ap₂ either first c.brief_flag-brief.ensures.local in
    let second = c.in_ok-command-3.ensures.globals ∙ ap₂ either brief c.strict_flag.ensures.local in
    let third = c.in_ok-command-4.ensures.globals ∙ ap₂ either second c.number_option-limit.ensures.local in
    c.in_ok-command-5.ensures.globals ∙ ap₂ either third c.progress_flag.ensures.local
