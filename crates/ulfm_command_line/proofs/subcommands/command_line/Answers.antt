use Rattle.ulfm_command_line.specs.Rules.{check_app, demanding_app, draw_app, expand_app, outcomes_app, places_app, replay_app, run_app, sweep_app}
use Rattle.ulfm_command_line.proofs.subcommands.command_line.Goals as goal

pub returns : goal.returns
returns c =
    let first = c.joined-command.ensures demanding_app check_app c.bare_command.ensures c.check_command.ensures.app in
    let second = c.joined-command-2.ensures _ replay_app first c.replay_command.ensures.app in
    let third = c.joined-command-3.ensures _ run_app second c.run_command.ensures.app in
    let fourth = c.joined-command-4.ensures _ sweep_app third c.sweep_command.ensures.app in
    let fifth = c.joined-command-5.ensures _ outcomes_app fourth c.outcomes_command.ensures.app in
    let sixth = c.joined-command-6.ensures _ places_app fifth c.places_command.ensures.app in
    let seventh = c.joined-command-7.ensures _ expand_app sixth c.expand_command.ensures.app in
    c.joined.ensures _ draw_app seventh c.draw_command.ensures.app
