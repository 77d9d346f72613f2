use Rattle.std.proofs.Common.{◌≡◌, drop}
use Rattle.ulfm_base.specs.Table.{value_of}
use Rattle.ulfm_base.proofs.table.Table.get.Given as goal

abbrev pub invariant-loop-at : goal.invariant-loop-at
invariant-loop-at g l = value_of l.number l.at-items ≡ value_of l.number (drop l.at-index l.at-items)
