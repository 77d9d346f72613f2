use Rattle.std.proofs.Common.{◌≡◌, ◌++◌, map, take}
use Rattle.ulfm_reader.proofs.WrittenOut.{view}
use Rattle.ulfm_reader.proofs.together.push_tables.Given as goal

abbrev pub invariant-loop-table : goal.invariant-loop-table
invariant-loop-table l = map view l.tables.items ≡ map view l.fn.tables.items ++ map view (take l.table-index l.more)
