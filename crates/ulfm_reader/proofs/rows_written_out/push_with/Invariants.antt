use Rattle.std.proofs.Common.{◌≡◌, ◌++◌, map}
use Rattle.std.specs.List.{flat_map, range_with_len}
use Rattle.ulfm_reader.proofs.WrittenOut.{line_view, view}
use Rattle.ulfm_reader.specs.Rows.{row_for}
use Rattle.ulfm_reader.proofs.rows_written_out.push_with.Given as goal

abbrev pub invariant-loop-any : goal.invariant-loop-any
invariant-loop-any l = map view l.rows.items ≡ map view l.fn.rows.items ++ flat_map (row_for (map line_view l.lines) (map view l.row) (view l.value) l.all) (range_with_len 0 l.any)
