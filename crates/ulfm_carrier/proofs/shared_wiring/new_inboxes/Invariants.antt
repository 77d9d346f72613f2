use Rattle.std.proofs.Common.{◌≡◌, length}
use Rattle.ulfm_carrier.proofs.Common.{AreInboxes, AreInlets}
use Rattle.ulfm_carrier.proofs.shared_wiring.new_inboxes.Given as goal

abbrev pub invariant-loop : goal.invariant-loop
invariant-loop l = record {
  many : length l.inboxes.items ≡ l.counter;
  as_many : length l.inlets.items ≡ l.counter;
  inboxes : AreInboxes l.capacity l.inboxes.items;
  inlets : AreInlets 0 l.inboxes.items l.inlets.items;
}
