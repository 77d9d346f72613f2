use Rattle.std.proofs.Common.{◌≡◌, map}
use Rattle.std.specs.List.{flat_map, range_with_len}
use Rattle.ulfm_reader.proofs.WrittenOut.{line_view, view}
use Rattle.ulfm_reader.specs.Rows.{rows_with}
use Rattle.ulfm_reader.proofs.rows_written_out.rows_over.Given as goal

abbrev pub invariant-loop-all : goal.invariant-loop-all
invariant-loop-all l = map view l.rows.items ≡ flat_map (rows_with (map line_view l.lines) (map view l.row) (view l.value) l.ranks) (range_with_len 0 l.all)
