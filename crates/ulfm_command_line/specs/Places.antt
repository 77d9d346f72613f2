-- What `places` writes for a job.
use Rattle.std.specs.Prelude.{◌≡◌, ◌<◌, ◌≤◌, ◌+◌, ℕ, List, ◌++◌, Ok, Err, codes}
use Rattle.std.specs.List.{flat_map}
use Rattle.ulfm_job.specs.declared.fault.JobFault.{JobFault}
use Rattle.ulfm_job.specs.declared.fault.JobFault.TheVariants.{TooLarge, OutOfMemory}
use Rattle.ulfm_job.specs.Job.{JobView, step_count}
use Rattle.ulfm_job.specs.Places.{places_of}
use Rattle.ulfm_job.specs.Text.{place_text}
use Rattle.ulfm_job.specs.declared.place.Place.{Place}
use Rattle.ulfm_reader.specs.Plan.{plan_of}
use Rattle.ulfm_reader.specs.JobText.{job_of_bytes}
use Rattle.ulfm_forms.specs.declared.form.Form.{Form}
use Rattle.ulfm_forms.specs.declared.form.Form.TheVariants.{Words, Json}
use Rattle.ulfm_command_line.specs.Failure.{out_of_memory_in}
use Rattle.ulfm_command_line.specs.Replies.{refused_in}

-- a place on a line of its own
abbrev pub place_line : Place → List ℕ
place_line place = place_text place ++ codes "\n"

-- the line of a place, as an object
abbrev pub place_json : Place → List ℕ
place_json place = codes "{\"place\":\"" ++ place_text place ++ codes "\"}\n"

-- either, in this form
abbrev pub place_line_in : Form → Place → List ℕ
place_line_in (Words wording) place = place_line place
place_line_in Json place = place_json place

-- all places, in their order
abbrev pub places_in : Form → List Place → List ℕ
places_in form places = flat_map (place_line_in form) places

-- The status and the text, in this form, that `places` gives for these bytes: with 0 a line for each place of their job with at most so many
-- stops; with 1 the line of the job's refusal, which is J6 too where so many more steps have no room in it, or J7; with 3 the line that
-- memory ran out.
pub data IsPlacesReply (form : Form) (stops : ℕ) (bytes : List ℕ) : ℕ → List ℕ → Type 0 where
  placed : (job : JobView) → job_of_bytes bytes ≡ Ok (plan_of job) → step_count job.scripts + stops ≤ 256
      → IsPlacesReply form stops bytes 0 (places_in form (places_of stops job))
  unplaced : (f : JobFault) → job_of_bytes bytes ≡ Err f → IsPlacesReply form stops bytes 1 (refused_in form f)
  crowded : (job : JobView) → job_of_bytes bytes ≡ Ok (plan_of job) → 256 < step_count job.scripts + stops
      → IsPlacesReply form stops bytes 1 (refused_in form TooLarge)
  unheld : IsPlacesReply form stops bytes 1 (refused_in form OutOfMemory)
  starved : IsPlacesReply form stops bytes 3 (out_of_memory_in form)
