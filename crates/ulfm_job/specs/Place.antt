-- Where ranks stop, besides the stops that their job has.
use Rattle.std.specs.Prelude.{◌≡◌, ◌+◌, ◌<◌, ◌≤◌, ℕ, true, List, [], ◌∷◌, ⊤, length, slice_get, if◌then◌else◌}
use Rattle.ulfm_job.specs.Job.{JobView, is_decided_together, script_at, with_left, with_stop}
use Rattle.ulfm_job.specs.declared.clause.Clause.{Clause}
use Rattle.ulfm_job.specs.declared.place.Place.{Place}
use Rattle.ulfm_job.specs.declared.place.Place.TheVariants.{Nowhere, One, Two}
use Rattle.ulfm_job.specs.declared.stop.Stop.{Stop}

-- the stops of a place
abbrev pub stops_of : Place → List Stop
stops_of Nowhere = []
stops_of (One stop) = stop ∷ []
stops_of (Two first second) = first ∷ second ∷ []

-- how many steps of its rank come before the stop: a rank that dies inside a step stops behind it
abbrev pub before : Stop → ℕ
before stop = if stop.dies then stop.at + 1 else stop.at

-- A job with one more step, a stop of this rank before this step of it. Or it stops behind it, and the step may be given up while it
-- stands open: then the rank dies inside it.
abbrev pub stopped : Stop → JobView → JobView
stopped stop j = if stop.dies then with_left stop.rank stop.at (with_stop stop.rank (before stop) j) else with_stop stop.rank (before stop) j

-- a job with the stops of a place: the ranks of two stops differ, so that neither moves the other one's number
abbrev pub job_at : Place → JobView → JobView
job_at Nowhere j = j
job_at (One stop) j = stopped stop j
job_at (Two first second) j = stopped second (stopped first j)

-- a job of whose answers this is expected, and nothing else
abbrev pub expecting : List Clause → JobView → JobView
expecting expected j = record j { expected = expected }

-- the job has this rank, and the rank so many steps before the stop; a step inside which it dies is one that ranks decide together
pub record IsStopOf (j : JobView) (stop : Stop) : Type 0 where
  pub rank : stop.rank < j.ranks
  pub at : before stop ≤ length (script_at j stop.rank)
  pub joint : stop.dies ≡ true → is_decided_together (slice_get (script_at j stop.rank) stop.at) ≡ true

-- the job has these stops, and the ranks of two rise
abbrev pub IsPlaceOf : JobView → Place → Type 0
IsPlaceOf j Nowhere = ⊤
IsPlaceOf j (One stop) = IsStopOf j stop
IsPlaceOf j (Two first second) = (first.rank < second.rank) × IsStopOf j first × IsStopOf j second
