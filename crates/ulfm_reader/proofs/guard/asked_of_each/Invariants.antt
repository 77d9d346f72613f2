use Rattle.std.proofs.Common.{◌≡◌, map, take}
use Rattle.ulfm_reader.proofs.WrittenOut.{line_view, view}
use Rattle.ulfm_reader.specs.Guards.{asked}
use Rattle.ulfm_reader.proofs.guard.asked_of_each.Given as goal

abbrev pub invariant-loop-guard : goal.invariant-loop-guard
invariant-loop-guard l = map view l.found.items ≡ map (asked (map line_view l.lines)) (take l.guard-index l.guards)
