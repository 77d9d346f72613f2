use Rattle.std.proofs.Common.{map}
use Rattle.ulfm_reader.proofs.WrittenOut.{line_view, view}
use Rattle.ulfm_reader.proofs.Over.{one_more}
use Rattle.ulfm_reader.specs.Rows.{row_for}
use Rattle.ulfm_reader.proofs.rows_written_out.push_with.Goals as goal

pub loop-any-preserved : goal.loop-any-preserved
loop-any-preserved c = one_more (row_for (map line_view c.args.lines.now) (map view c.args.row.now) (view c.args.value.now) c.args.all) c.loop-any.any (map view c.loop-any.rows.items) (map view c.args.rows.now.items) _ c.in_ok-push_for.ensures c.loop-any.invariant
