use Rattle.std.proofs.Common.{map, sym, ◌∙◌}
use Rattle.ulfm_reader.proofs.WrittenOut.{line_view}
use Rattle.ulfm_reader.proofs.Values.{all_view}
use Rattle.ulfm_reader.specs.Rows.{is_step_there, opened}
use Rattle.ulfm_reader.proofs.rows_written_out.are_there.Goals as goal

pub returns : goal.returns
returns c = c.all_there.ensures ∙ sym (all_view (λ d. is_step_there (map line_view c.args.lines.now) (opened c.args.pair.all c.args.pair.any d)) c.args.row.now)
