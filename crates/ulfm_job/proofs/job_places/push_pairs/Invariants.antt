use Rattle.std.proofs.Common.{◌≡◌, ◌++◌, take}
use Rattle.ulfm_job.specs.Places.{pairs_of}
use Rattle.ulfm_job.proofs.job_places.push_pairs.Given as goal

abbrev pub invariant-loop-second : goal.invariant-loop-second
invariant-loop-second l = l.places.items ≡ l.fn.places.items ++ pairs_of (take l.second-index l.fn.stops) l.fn.first
