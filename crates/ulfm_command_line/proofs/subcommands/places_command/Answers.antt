use Rattle.std.proofs.Common.{rules, ap, ap₂, codes, ◌≡◌, ◌∙◌}
use Rattle.std.proofs.lemmas.Result.{IfOk-weaker}
use Rattle.clap.specs.Words.{app_of, new_app, with_rule}
use Rattle.ulfm_command_line.specs.Rules.{of_jobs}
use Rattle.ulfm_command_line.proofs.subcommands.places_command.Goals as goal

pub returns-clause-app : goal.returns-clause-app
returns-clause-app c =
    let about_is : app_of c.after_help.result ≡ new_app (codes "places") = search rules in
    let first = c.in_ok-command.ensures.shape c.stops_option-stops.ensures.local ∙ ap₂ with_rule about_is c.stops_option-stops.ensures.rule in
    IfOk-weaker c.of_jobs.result _ _ (λ r h. h ∙ ap of_jobs first) c.of_jobs.ensures.app
