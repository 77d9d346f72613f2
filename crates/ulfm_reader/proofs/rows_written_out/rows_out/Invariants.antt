use Rattle.std.proofs.Common.{◌≡◌, map, drop}
use Rattle.ulfm_reader.proofs.WrittenOut.{line_view, view}
use Rattle.ulfm_reader.specs.Rows.{rows_behind, rows_out}
use Rattle.ulfm_reader.proofs.rows_written_out.rows_out.Given as goal

abbrev pub invariant-loop-value : goal.invariant-loop-value
invariant-loop-value l = rows_behind (map line_view l.lines) l.ranks (map view l.rows.items) (map view (drop l.value-index l.values)) ≡ rows_out (map line_view l.lines) l.ranks (map view l.values)
