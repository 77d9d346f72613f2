-- Steps as the file of a job numbers them, and as the job at a place does, whose stops are steps.
use Rattle.std.specs.Prelude.{ℕ, ◌-◌, ◌==◌, ◌&&◌, nat_lt, if◌then◌else◌, length}
use Rattle.std.specs.List.{fold}
use Rattle.ulfm_job.specs.Job.{JobView, moved_number, script_at}
use Rattle.ulfm_job.specs.Place.{before, stops_of}
use Rattle.ulfm_job.specs.declared.place.Place.{Place}
use Rattle.ulfm_job.specs.declared.stop.Stop.{Stop}

-- the number of the step k of the rank r, whose script has n steps, once the stop is there
abbrev pub moved_by : ℕ → ℕ → ℕ → Stop → ℕ
moved_by n r k stop = if stop.rank == r then moved_number (before stop) n k else k

-- the number that the step k of the rank r, as the file numbers it, has in the job at the place
abbrev pub number_at : Place → JobView → ℕ → ℕ → ℕ
number_at place j r k = fold (moved_by (length (script_at j r)) r) k (stops_of place)

-- the number of a step of the rank r before the stop was there, if it isn't the stop
abbrev pub filed_by : ℕ → ℕ → Stop → ℕ
filed_by r k stop = if stop.rank == r && nat_lt (before stop) k then k - 1 else k

-- the number that a step has in the file, by the one that it has in the job at the place
abbrev pub filed_number : Place → ℕ → ℕ → ℕ
filed_number place r k = fold (filed_by r) k (stops_of place)
