use Rattle.std.proofs.Common.{◌≡◌, map, take}
use Rattle.ulfm_reader.proofs.WrittenOut.{view}
use Rattle.ulfm_reader.specs.Iterations.{referred_condition}
use Rattle.ulfm_reader.proofs.conditions_written_out.referred_conditions.Given as goal

abbrev pub invariant-loop-condition : goal.invariant-loop-condition
invariant-loop-condition l = map view l.found.items ≡ map (referred_condition (map view l.block) l.rank l.i) (map view (take l.condition-index l.conditions))
