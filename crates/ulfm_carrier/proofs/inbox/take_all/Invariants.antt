use Rattle.std.proofs.Common.{◌≡◌, List, vec_len, vec_capacity}
use Rattle.ulfm_carrier.proofs.Common.{AllBelow, IsSamePass, ReceiptsAreTakenAndHeld, Signed, view, after_all}
use Rattle.ulfm_carrier.proofs.inbox.take_all.Given as goal

abbrev pub invariant-loop : goal.invariant-loop
invariant-loop g l = record {
  inlet : IsSamePass l.initial.inlet l.inlet;
  taken : view l.inlet ≡ after_all (view l.initial.inlet) l.left.items;
  many : vec_len l.left ≡ l.counter;
  room : vec_capacity l.left ≡ vec_capacity l.initial.left;
  senders : AllBelow (view l.initial.inlet).made l.left.items;
  held : (held : List Signed) × ReceiptsAreTakenAndHeld (view l.inlet) held;
}
