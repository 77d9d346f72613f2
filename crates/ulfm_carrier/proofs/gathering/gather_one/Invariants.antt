use Rattle.std.proofs.Common.{◌≡◌, ◌<◌, ◌≤◌, ◌+◌, ◌++◌, ℕ, [], map, sum, drop, get_or, vec_len, vec_capacity}
use Rattle.ulfm_carrier.proofs.Common.{at, Inlet, inlet_capacity, inlet_name, IsOpenRing, items_from, taken_by}
use Rattle.ulfm_carrier.proofs.Views.{view, pushed_at}
use Rattle.ulfm_carrier.proofs.gathering.gather_one.Given as goal

abbrev pub invariant-loop-from : goal.invariant-loop-from
invariant-loop-from l = record {
  ends : map view l.ends.items ≡ map view l.initial.ends.items;
  names : map inlet_name l.ins.items ≡ map inlet_name l.initial.ins.items;
  taken : map taken_by l.ins.items ≡ map taken_by l.initial.ins.items;
  capacities : map inlet_capacity l.ins.items ≡ map inlet_capacity l.initial.ins.items;
  live : (k : ℕ) (i : Inlet) → l.from ≤ k → at l.ins.items k i → IsOpenRing k i;
  room : vec_len l.left + sum (drop l.from (map inlet_capacity l.initial.ins.items)) ≤ vec_capacity l.left;
  left : (s : ℕ) → s < l.from → pushed_at l.fn.ends.items s l.place ≡ get_or (map taken_by l.initial.ins.items) s [] ++ items_from s l.left.items;
  rest : (s : ℕ) → l.from ≤ s → items_from s l.left.items ≡ [];
}
