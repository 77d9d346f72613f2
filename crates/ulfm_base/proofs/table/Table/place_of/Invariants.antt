use Rattle.std.proofs.Common.{◌≡◌, ◌+◌, drop}
use Rattle.ulfm_base.specs.Table.{places_below}
use Rattle.ulfm_base.proofs.table.Table.place_of.Given as goal

abbrev pub invariant-loop-k : goal.invariant-loop-k
invariant-loop-k g l = places_below l.number l.self.entries ≡ l.k + places_below l.number (drop l.k l.self.entries)
