use Rattle.std.proofs.Common.{◌≡◌, ◌+◌, ◌≤◌, ◌++◌, vec_len, vec_capacity, map}
use Rattle.std.specs.Vec.Iter.{into_iter_items, into_iter_len}
use Rattle.ulfm_tests.proofs.run.laid.laid_over.Given as goal

abbrev pub invariant-loop-inner : goal.invariant-loop-inner
invariant-loop-inner g l = record {
  room : vec_len l.ends + into_iter_len l.inner-iterator ≤ vec_capacity l.ends;
  inners : map (λ e. e.inner) l.ends.items ++ into_iter_items l.inner-iterator ≡ l.fn.inners.items;
}
