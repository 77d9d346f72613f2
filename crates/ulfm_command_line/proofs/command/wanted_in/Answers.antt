use Rattle.std.proofs.Common.{◌∙◌, ap, sym}
use Rattle.clap.specs.Words.{found_of, rows_of}
use Rattle.ulfm_command_line.specs.CommandLine.{meant}
use Rattle.ulfm_command_line.proofs.Parsed.{rows_met}
use Rattle.ulfm_command_line.proofs.command.wanted_in.Goals as goal

pub returns-clause-exact : goal.returns-clause-exact
returns-clause-exact c =
    let rows = rows_of (found_of c.in_ok-name.options.now) in
    c.named.ensures.exact ∙ sym (ap meant (rows_met c.args.matches.now c.in_ok-name.name.now rows c.in_ok-name.ensures.name c.in_ok-name.ensures.rows))
