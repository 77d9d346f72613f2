use Rattle.std.proofs.Common.{◌≡◌, ◌++◌, map, All}
use Rattle.ulfm_world.proofs.Common.{range_with_len}
use Rattle.ulfm_replay.specs.Sweep.{IsSwept, place_of}
use Rattle.ulfm_replay.proofs.sweeps.sweep_rank.Given as goal

abbrev pub invariant-loop-at : goal.invariant-loop-at
invariant-loop-at l = (map place_of l.lines.items ≡ map place_of l.fn.lines.items ++ map (λ at. (l.rank, at)) (range_with_len 0 l.at)) × (All (IsSwept l.job) l.fn.lines.items → All (IsSwept l.job) l.lines.items)
