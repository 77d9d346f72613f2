use Rattle.std.proofs.Common.{◌≡◌, length}
use Rattle.ulfm_carrier.proofs.Common.{AreInlets, AreRows}
use Rattle.ulfm_carrier.proofs.shared_wiring.all_outs.Given as goal

abbrev pub invariant-loop : goal.invariant-loop
invariant-loop l = record {
  many : length l.inlets.items ≡ l.n;
  inlets : AreInlets l.counter l.inboxes.items l.inlets.items;
  rows : AreRows l.counter l.inboxes.items l.rows.items;
}
