use Rattle.std.proofs.Common.{◌∙◌, ap, sym}
use Rattle.clap.specs.Words.{found_of, rows_of}
use Rattle.ulfm_command_line.specs.CommandLine.{form_in}
use Rattle.ulfm_command_line.proofs.Parsed.{rows_met}
use Rattle.ulfm_command_line.proofs.command.form_in.Goals as goal

pub returns-in-Some : goal.returns-in-Some
returns-in-Some c =
    let rows = rows_of (found_of c.in-Some.options.now) in
    c.form_of.ensures ∙ sym (ap form_in (rows_met c.args.matches.now c.in-Some.field-0-0.now rows c.in-Some.ensures.name c.in-Some.ensures.rows))
