use Rattle.std.proofs.Common.{◌≡◌, ◌<◌, ℕ, false}
use Rattle.ulfm_job.specs.Places.{stops_always}
use Rattle.ulfm_job.proofs.job_places.last_place.Given as goal

abbrev pub invariant-loop-at : goal.invariant-loop-at
invariant-loop-at l = (k : ℕ) → k < l.at → stops_always l.job l.rank k ≡ false
