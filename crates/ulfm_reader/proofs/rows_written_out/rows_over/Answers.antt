use Rattle.std.proofs.Common.{[], map}
use Rattle.ulfm_reader.proofs.WrittenOut.{line_view, view}
use Rattle.ulfm_reader.proofs.Over.{one_more}
use Rattle.ulfm_reader.specs.Rows.{rows_with}
use Rattle.ulfm_reader.proofs.rows_written_out.rows_over.Goals as goal

pub loop-all-preserved : goal.loop-all-preserved
loop-all-preserved c = one_more (rows_with (map line_view c.args.lines.now) (map view c.args.row.now) (view c.args.value.now) c.args.ranks) c.loop-all.all (map view c.loop-all.rows.items) [] _ c.in_ok-push_with.ensures c.loop-all.invariant
