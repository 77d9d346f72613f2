use Rattle.std.proofs.Common.{◌≡◌, map, All}
use Rattle.ulfm_world.proofs.Common.{flat_map, range_with_len}
use Rattle.ulfm_replay.specs.Sweep.{IsSwept, place_of, places_in}
use Rattle.ulfm_replay.proofs.sweeps.sweep.Given as goal

abbrev pub invariant-loop-rank : goal.invariant-loop-rank
invariant-loop-rank l = (map place_of l.lines.items ≡ flat_map (places_in l.job) (range_with_len 0 l.rank)) × All (IsSwept l.job) l.lines.items
