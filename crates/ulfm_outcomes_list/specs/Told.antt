-- What is told of a search for a schedule: alone, or of what isn't wanted, and perhaps at a place.
use Rattle.std.specs.Prelude.{ℕ, List, [], ◌++◌, Option, Some, None, codes}
use Rattle.std.specs.Fmt.{decimal}
use Rattle.ulfm_outcomes_list.specs.declared.unmet.Unmet.{Unmet}
use Rattle.ulfm_job.specs.Job.{JobView}
use Rattle.ulfm_forms.specs.declared.form.Form.{Form}
use Rattle.ulfm_forms.specs.declared.form.Form.TheVariants.{Words, Json}
use Rattle.ulfm_forms.specs.declared.wording.Wording.{Wording}
use Rattle.ulfm_schedule.specs.declared.schedule.Schedule.{Schedule as Scheduled}
use Rattle.ulfm_reader.specs.declared.name.Name.{Name}
use Rattle.ulfm_job.specs.Text.{place_text}
use Rattle.ulfm_job.specs.declared.place.Place.{Place}
use Rattle.ulfm_outcomes_list.specs.ScheduleJson.{schedule_json}
use Rattle.ulfm_outcomes_list.specs.ScheduleWords.{schedule_in}
use Rattle.ulfm_outcomes_list.specs.declared.search_result.Told.{Told}
use Rattle.ulfm_outcomes_list.specs.declared.search_result.Told.TheVariants.{Schedule, Many}

-- that in these words, of this job
abbrev pub told_words : Wording → JobView → Told → List ℕ
told_words wording job (Schedule schedule) = schedule_in wording job schedule
told_words wording job (Many limit) = codes "more than " ++ decimal limit ++ codes " states\n"

-- the key of the schedule of a job whose steps have these names
abbrev pub schedule_key : List Name → JobView → Scheduled → List ℕ
schedule_key names job schedule = codes "\"schedule\":" ++ schedule_json names job schedule

-- its key in an object: the schedule of a job whose steps have these names, or the limit
abbrev pub told_json : List Name → JobView → Told → List ℕ
told_json names job (Schedule schedule) = schedule_key names job schedule
told_json names job (Many limit) = codes "\"more_states_than\":" ++ decimal limit

-- the end of a line: a place, if there is one
abbrev pub at_words : Option Place → List ℕ
at_words None = codes "\n"
at_words (Some place) = codes " at " ++ place_text place ++ codes "\n"

-- the key of a place, and a comma
abbrev pub at_json : Option Place → List ℕ
at_json None = []
at_json (Some place) = codes "\"at\":\"" ++ place_text place ++ codes "\","

-- the rest of an object: the place, and what was told
abbrev pub rest_json : Option Place → List Name → JobView → Told → List ℕ
rest_json at names job told = at_json at ++ told_json names job told ++ codes "}\n"

-- a step that has an answer which it doesn't expect, in words
abbrev pub unmet_words : Option Place → Unmet → List ℕ
unmet_words at unmet = codes "not as expected: " ++ decimal unmet.rank ++ codes "." ++ decimal unmet.step ++ at_words at

-- the step, as an object, and a comma
abbrev pub place_json : Unmet → List ℕ
place_json unmet = codes "{\"rank\":" ++ decimal unmet.rank ++ codes ",\"step\":" ++ decimal unmet.step ++ codes "},"

-- the step, as the first key of an object
abbrev pub unmet_json : Unmet → List ℕ
unmet_json unmet = codes "{\"not_as_expected\":" ++ place_json unmet

-- such a step, and what was told of it
abbrev pub unmet_in : Form → Option Place → List Name → JobView → Unmet → Told → List ℕ
unmet_in (Words wording) at names job unmet told = unmet_words at unmet ++ told_words wording job told
unmet_in Json at names job unmet told = unmet_json unmet ++ rest_json at names job told

-- what is said of a row of `never`: that all its answers come together, or that it isn't known whether they do
abbrev pub row_saying : Told → List ℕ
row_saying (Schedule schedule) = codes "come together: never["
row_saying (Many limit) = codes "not known: never["

-- the key of its number, as the first of an object
abbrev pub row_key : Told → List ℕ
row_key (Schedule schedule) = codes "{\"never\":"
row_key (Many limit) = codes "{\"not_known\":"

-- the beginning of a line: what is said of a row by its number, from 0
abbrev pub row_head : ℕ → Told → List ℕ
row_head number told = row_saying told ++ decimal number ++ codes "]"

-- the beginning of a line in words: what is said of a row by its number, and at which place
abbrev pub row_words : Option Place → ℕ → Told → List ℕ
row_words at number told = row_head number told ++ at_words at

-- such a row, and what was told of it
abbrev pub row_in : Form → Option Place → List Name → JobView → ℕ → Told → List ℕ
row_in (Words wording) at names job number told = row_words at number told ++ told_words wording job told
row_in Json at names job number told = row_key told ++ decimal number ++ codes "," ++ rest_json at names job told

-- the line that there are more states than the limit at a place
abbrev pub more_at : Form → ℕ → Place → List ℕ
more_at (Words wording) limit place = codes "more than " ++ decimal limit ++ codes " states at " ++ place_text place ++ codes "\n"
more_at Json limit place = codes "{\"more_states_than\":" ++ decimal limit ++ codes ",\"at\":\"" ++ place_text place ++ codes "\"}\n"

-- what was told, alone
abbrev pub alone_in : Form → List Name → JobView → Told → List ℕ
alone_in (Words wording) names job told = told_words wording job told
alone_in Json names job told = codes "{" ++ rest_json None names job told

-- a schedule at a place, below the line of the place
abbrev pub schedule_at : Form → Place → List Name → JobView → Told → List ℕ
schedule_at (Words wording) place names job told = codes "at " ++ place_text place ++ codes "\n" ++ told_words wording job told
schedule_at Json place names job told = codes "{" ++ rest_json (Some place) names job told

-- what was told at a place
abbrev pub told_at : Form → Place → List Name → JobView → Told → List ℕ
told_at form place names job (Schedule schedule) = schedule_at form place names job (Schedule schedule)
told_at form place names job (Many limit) = more_at form limit place

-- what was told, perhaps at a place
abbrev pub told_in : Form → Option Place → List Name → JobView → Told → List ℕ
told_in form None names job told = alone_in form names job told
told_in form (Some place) names job told = told_at form place names job told
