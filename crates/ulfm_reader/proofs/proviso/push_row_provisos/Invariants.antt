use Rattle.std.proofs.Common.{◌≡◌, drop}
use Rattle.ulfm_reader.proofs.Common.{items_view}
use Rattle.ulfm_reader.specs.Provisos.{row_provisos_onto}
use Rattle.ulfm_reader.proofs.proviso.push_row_provisos.Given as goal

abbrev pub invariant-loop-number : goal.invariant-loop-number
invariant-loop-number l = row_provisos_onto l.number l.provisos.items (items_view (drop l.number l.fn.values)) ≡ row_provisos_onto 0 l.fn.provisos.items (items_view l.fn.values)
