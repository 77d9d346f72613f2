use Rattle.std.proofs.Common.{◌≡◌, map, take}
use Rattle.ulfm_reader.proofs.WrittenOut.{view}
use Rattle.ulfm_reader.specs.Rows.{opened, said_by}
use Rattle.ulfm_reader.proofs.rows_written_out.said_at.Given as goal

abbrev pub invariant-loop-value : goal.invariant-loop-value
invariant-loop-value l = map view l.texts.items ≡ map (λ d. said_by d (opened l.pair.all l.pair.any d)) (map view (take l.value-index l.row))
