use Rattle.std.proofs.Common.{◌≡◌, ◌≤◌, ℕ, take, length, filter_map}
use Rattle.ulfm_script.proofs.Common.{rank_in}
use Rattle.ulfm_script.proofs.members.positions_in.Given as goal

abbrev pub invariant-loop-k : goal.invariant-loop-k
invariant-loop-k l = record {
  found : l.positions.items ≡ filter_map (λ (member : ℕ). rank_in l.group member) (take l.k l.others);
  few : length l.positions.items ≤ l.k;
  inline : l.positions.capacity ≡ 8;
}
