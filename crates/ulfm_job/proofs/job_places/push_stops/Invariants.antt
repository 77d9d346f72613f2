use Rattle.std.proofs.Common.{◌≡◌, ◌++◌}
use Rattle.std.specs.List.{flat_map, range_with_len}
use Rattle.ulfm_job.specs.Places.{stops_near}
use Rattle.ulfm_job.proofs.job_places.push_stops.Given as goal

abbrev pub invariant-loop-at : goal.invariant-loop-at
invariant-loop-at l = l.stops.items ≡ l.fn.stops.items ++ flat_map (stops_near l.job l.rank) (range_with_len 0 l.at)
