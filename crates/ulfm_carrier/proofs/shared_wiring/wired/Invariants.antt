use Rattle.std.proofs.Common.{◌≡◌, ◌≤◌, ◌+◌, ◌++◌, ℕ, length, map, slice_get}
use Rattle.std.specs.Vec.Iter.{into_iter_items, into_iter_len}
use Rattle.ulfm_carrier.proofs.Common.{arc_value, at, SharedEnds, IsMade}
use Rattle.ulfm_carrier.proofs.shared_wiring.wired.Given as goal

abbrev pub invariant-loop-inlet : goal.invariant-loop-inlet
invariant-loop-inlet l = record {
  inlets : map (λ e. e.inlet) l.ends.items ++ into_iter_items l.inlet-iterator ≡ l.fn.inlets.items;
  count : length l.ends.items + into_iter_len l.inlet-iterator ≡ length l.fn.inlets.items;
  many : length l.rows.items ≡ length l.fn.inlets.items;
  waiting : (j : ℕ) → length l.ends.items ≤ j → slice_get l.rows.items j ≡ slice_get l.fn.rows.items j;
  each : (k : ℕ) (e : SharedEnds) → at l.ends.items k e → IsMade (length l.fn.inlets.items) l.capacity (arc_value l.inboxes).items k e;
}
