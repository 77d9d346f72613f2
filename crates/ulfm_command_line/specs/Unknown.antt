-- How it is printed that a job hasn't what the words name: a place, an answer, a step.
use Rattle.std.specs.Prelude.{ℕ, List, ◌++◌, codes}
use Rattle.ulfm_job.specs.Text.{place_text}
use Rattle.ulfm_job.specs.declared.place.Place.{Place}
use Rattle.ulfm_forms.specs.declared.form.Form.{Form}
use Rattle.ulfm_forms.specs.declared.form.Form.TheVariants.{Words, Json}

-- the line for a place that a job hasn't
abbrev pub no_place_text : Place → List ℕ
no_place_text place = codes "place refused: " ++ place_text place ++ codes "\n"

-- the line for a place that a job hasn't, as an object
abbrev pub no_place_json : Place → List ℕ
no_place_json place = codes "{\"place_refused\":\"" ++ place_text place ++ codes "\"}\n"

-- either, in this form
abbrev pub no_place_in : Form → Place → List ℕ
no_place_in (Words wording) place = no_place_text place
no_place_in Json place = no_place_json place

-- the line for a text that names no place of a job
abbrev pub unnamed_text : List ℕ → List ℕ
unnamed_text text = codes "place refused: " ++ text ++ codes "\n"

-- the line for a text that names no place of a job, as an object
abbrev pub unnamed_json : List ℕ → List ℕ
unnamed_json text = codes "{\"place_refused\":\"" ++ text ++ codes "\"}\n"

-- either, in this form
abbrev pub unnamed_in : Form → List ℕ → List ℕ
unnamed_in (Words wording) text = unnamed_text text
unnamed_in Json text = unnamed_json text

-- the line for a goal that names no answer of the job
abbrev pub no_goal : List ℕ → List ℕ
no_goal text = codes "goal refused: " ++ text ++ codes "\n"

-- the line for a name that no step of the job has
abbrev pub no_name : List ℕ → List ℕ
no_name name = codes "name refused: " ++ name ++ codes "\n"
