-- What a text asks for, with the stops of a place.
use Rattle.std.specs.Prelude.{◌≡◌, ◌==◌, ◌<◌, ◌+◌, ℕ, List, [], length, map, Result, Ok, Err, if◌then◌else◌}
use Rattle.ulfm_job.specs.declared.clause.Clause.{Clause}
use Rattle.ulfm_job.specs.declared.fault.JobFault.{JobFault}
use Rattle.ulfm_job.specs.declared.fault.JobFault.TheVariants.{TooLarge, OutOfMemory}
use Rattle.ulfm_job.specs.Job.{JobView, moved_clause, moved_number, script_at, step_count}
use Rattle.ulfm_job.specs.Place.{IsPlaceOf, before, stopped, stops_of}
use Rattle.ulfm_job.specs.declared.place.Place.{Place}
use Rattle.ulfm_job.specs.declared.place.Place.TheVariants.{Nowhere, One, Two}
use Rattle.ulfm_job.specs.declared.stop.Stop.{Stop}
use Rattle.ulfm_reader.specs.JobText.{job_of_bytes, reading_of_bytes}
use Rattle.ulfm_reader.specs.Plan.{plan_of}
use Rattle.ulfm_reader.specs.declared.filed.Filed.{Filed}
use Rattle.ulfm_reader.specs.declared.name.Name.{Name}
use Rattle.ulfm_reader.specs.declared.reading.Reading.{Reading as Kept}
use Rattle.ulfm_forms.specs.declared.form.Form.{Form}
pub use Rattle.ulfm_command_line.specs.AskedFor.{Asked, asked_view, reading_as}
use Rattle.ulfm_command_line.specs.Body.{body_in}
use Rattle.ulfm_command_line.specs.Holding.{held_at}
use Rattle.ulfm_command_line.specs.Unknown.{no_place_in}
use Rattle.ulfm_command_line.specs.Replies.{refused_in}
use Rattle.ulfm_command_line.specs.declared.reply.Reply.{Reply}

-- clauses by the numbers that steps have beside a stop
abbrev pub clauses_beside : Stop → ℕ → List Clause → List Clause
clauses_beside stop n clauses = map (moved_clause stop.rank (before stop) n) clauses

-- the number that a step of a rank has beside a stop
abbrev pub number_beside : Stop → ℕ → ℕ → ℕ → ℕ
number_beside stop n rank at = if rank == stop.rank then moved_number (before stop) n at else at

-- the name of a step by the number that the step has beside a stop
abbrev pub name_beside : Stop → ℕ → Name → Name
name_beside stop n name = record name { at = number_beside stop n name.rank name.at }

-- the place of a step in the file, by that number: the stop itself has none
abbrev pub filed_beside : Stop → ℕ → Filed → Filed
filed_beside stop n one = record one { at = number_beside stop n one.rank one.at }

-- how many steps the rank of a stop has without it
abbrev pub steps_without : Stop → JobView → ℕ
steps_without stop j = length (script_at j stop.rank)

-- what was read and holds at its place, with one more stop
abbrev pub asked_beside : Stop → Asked → Asked
asked_beside stop asked = record {
  job = stopped stop asked.job;
  rows = map (clauses_beside stop (steps_without stop asked.job)) asked.rows;
  names = map (name_beside stop (steps_without stop asked.job)) asked.names;
  filed = map (filed_beside stop (steps_without stop asked.job)) asked.filed;
  provisos = [];
}

-- what was read and holds at its place, with the stops of a place
abbrev pub beside_stops : Place → Asked → Asked
beside_stops Nowhere asked = asked
beside_stops (One stop) asked = asked_beside stop asked
beside_stops (Two first second) asked = asked_beside second (asked_beside first asked)

-- what was read, as far as it holds at a place, with the stops of that
abbrev pub asked_at : Place → Asked → Asked
asked_at place asked = beside_stops place (held_at place asked)

-- these bytes ask for this, with the stops of a place
pub record IsAskedAt (place : Place) (bytes : List ℕ) (asked : Asked) : Type 0 where
  pub read : Asked
  pub is_read : reading_of_bytes bytes ≡ Ok (reading_as read)
  pub inside : IsPlaceOf read.job place
  pub at_place : asked ≡ asked_at place read

-- The status and the text, in this form, where nothing is played with the stops of a place: the line of the job's refusal, which is J6 too
-- where these stops have no room in it, or J7; or that the job hasn't this place.
pub data IsRefusal (form : Form) (place : Place) (bytes : List ℕ) : ℕ → List ℕ → Type 0 where
  no_job : (f : JobFault) → job_of_bytes bytes ≡ Err f → IsRefusal form place bytes 1 (refused_in form f)
  no_place : (job : JobView) → job_of_bytes bytes ≡ Ok (plan_of job) → ¬ IsPlaceOf job place → IsRefusal form place bytes 1 (no_place_in form place)
  no_room : (job : JobView) → job_of_bytes bytes ≡ Ok (plan_of job) → 256 < step_count job.scripts + length (stops_of place) → IsRefusal form place bytes 1 (refused_in form TooLarge)
  no_memory : IsRefusal form place bytes 1 (refused_in form OutOfMemory)

-- what these bytes ask for with the stops of a place, or the reply, in each form, that they are refused
abbrev pub IsAsked : Place → List ℕ → Result Kept Reply → Type 0
IsAsked place bytes (Ok asked) = IsAskedAt place bytes (asked_view asked)
IsAsked place bytes (Err reply) = (form : Form) → IsRefusal form place bytes reply.status (body_in form reply.body)
