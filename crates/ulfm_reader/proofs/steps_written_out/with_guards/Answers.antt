use Rattle.std.proofs.Common.{map, sym, ◌∙◌}
use Rattle.ulfm_reader.proofs.WrittenOut.{line_view}
use Rattle.ulfm_reader.proofs.Unguarded.{as_lines}
use Rattle.ulfm_reader.proofs.steps_written_out.with_guards.Goals as goal

pub returns-else-leads-clause-exact : goal.returns-else-leads-clause-exact
returns-else-leads-clause-exact c =
    let lines = map line_view c.args.lines.items in
    sym (as_lines c.args.items.now lines (sym c.leads.ensures ∙ c.if-leads.false) 0 lines)
