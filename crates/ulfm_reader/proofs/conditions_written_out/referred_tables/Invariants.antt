use Rattle.std.proofs.Common.{◌≡◌, map, take}
use Rattle.ulfm_reader.proofs.WrittenOut.{view}
use Rattle.ulfm_reader.specs.Iterations.{referred_table}
use Rattle.ulfm_reader.proofs.conditions_written_out.referred_tables.Given as goal

abbrev pub invariant-loop-value : goal.invariant-loop-value
invariant-loop-value l = map view l.found.items ≡ map (referred_table (map view l.block) l.rank l.i) (map view (take l.value-index l.values))
