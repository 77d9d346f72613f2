use Rattle.std.proofs.Common.{◌≡◌, ◌++◌, take}
use Rattle.std.specs.List.{flat_map}
use Rattle.ulfm_job.specs.Places.{pairs_of}
use Rattle.ulfm_job.proofs.job_places.push_twos.Given as goal

abbrev pub invariant-loop-first : goal.invariant-loop-first
invariant-loop-first l = l.places.items ≡ l.fn.places.items ++ flat_map (pairs_of l.fn.stops) (take l.first-index l.fn.stops)
