use Rattle.std.proofs.Common.{◌≡◌, map, drop}
use Rattle.ulfm_reader.proofs.WrittenOut.{view}
use Rattle.ulfm_reader.specs.Blocks.{leads_to}
use Rattle.ulfm_reader.proofs.block.leads_to.Given as goal

abbrev pub invariant-loop-item : goal.invariant-loop-item
invariant-loop-item l = leads_to l.name (map view l.behind) ≡ leads_to l.name (map view (drop l.item-index l.behind))
