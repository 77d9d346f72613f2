use Rattle.std.proofs.Common.{◌≡◌}
use Rattle.std.specs.List.{flat_map, range_with_len}
use Rattle.ulfm_job.specs.Places.{stops_in}
use Rattle.ulfm_job.proofs.job_places.all_stops.Given as goal

abbrev pub invariant-loop-rank : goal.invariant-loop-rank
invariant-loop-rank l = l.stops.items ≡ flat_map (stops_in l.job) (range_with_len 0 l.rank)
