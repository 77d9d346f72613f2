use Rattle.std.proofs.Common.{◌≡◌, ◌≤◌, ◌<◌, ℕ, length, slice_get}
use Rattle.ulfm_carrier.proofs.Common.{AreNextOuts, at, InboxPass, IsSamePass, view, one_more}
use Rattle.ulfm_carrier.proofs.shared_wiring.next_outs.Given as goal

abbrev pub invariant-loop-dest : goal.invariant-loop-dest
invariant-loop-dest l = record {
  many : length l.inlets.items ≡ length l.initial.inlets.items;
  as_many : length l.outs.items ≡ l.dest;
  made : (j : ℕ) (p q : InboxPass) → j < l.dest → at l.initial.inlets.items j p → at l.inlets.items j q → IsSamePass p q × (view q ≡ one_more (view p));
  waiting : (j : ℕ) → l.dest ≤ j → slice_get l.inlets.items j ≡ slice_get l.initial.inlets.items j;
  outs : AreNextOuts l.inboxes.items l.initial.inlets.items l.outs.items;
}
