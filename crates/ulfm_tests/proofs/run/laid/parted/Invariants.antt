use Rattle.std.proofs.Common.{◌≡◌, ◌+◌, ◌≤◌, ◌++◌, vec_len, vec_capacity, map}
use Rattle.std.specs.Vec.Iter.{into_iter_items, into_iter_len}
use Rattle.ulfm_tests.proofs.run.laid.parted.Given as goal

abbrev pub invariant-loop-end : goal.invariant-loop-end
invariant-loop-end g l = record {
  room : vec_len l.inners + into_iter_len l.end-iterator ≤ vec_capacity l.inners;
  room_habits : vec_len l.habits + into_iter_len l.end-iterator ≤ vec_capacity l.habits;
  inners : l.inners.items ++ map (λ e. e.inner) (into_iter_items l.end-iterator) ≡ map (λ e. e.inner) l.fn.ends.items;
}
