use Rattle.std.proofs.Common.{ap, ap₂, ◌∙◌}
use Rattle.std.proofs.lemmas.Result.{IfOk-weaker}
use Rattle.clap.specs.Words.{Rule, app_of, with_rule}
use Rattle.ulfm_command_line.specs.Rules.{of_jobs}
use Rattle.ulfm_command_line.proofs.subcommands.of_stopped.Goals as goal

pub returns-clause-app : goal.returns-clause-app
returns-clause-app c =
    let first = c.in_ok-command.ensures.shape c.stop_option.ensures.local ∙ ap (λ (rule : Rule). with_rule (app_of c.args.command) rule) c.stop_option.ensures.rule in
    let second = c.in_ok-command-2.ensures.shape c.plain_flag-mpi.ensures.local ∙ ap₂ with_rule first c.plain_flag-mpi.ensures.rule in
    IfOk-weaker c.of_jobs.result _ _ (λ r h. h ∙ ap of_jobs second) c.of_jobs.ensures.app
