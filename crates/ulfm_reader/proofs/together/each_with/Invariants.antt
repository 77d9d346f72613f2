use Rattle.std.proofs.Common.{◌≡◌, map, take}
use Rattle.ulfm_reader.proofs.WrittenOut.{view}
use Rattle.ulfm_reader.specs.Together.{condition_with}
use Rattle.ulfm_reader.proofs.together.each_with.Given as goal

abbrev pub invariant-loop-value : goal.invariant-loop-value
invariant-loop-value l = map view l.found.items ≡ map (condition_with (map view l.more)) (map view (take l.value-index l.values))
