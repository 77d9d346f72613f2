-- What is written of a run: its trace, and whether it came to rest.
use Rattle.std.specs.Prelude.{ℕ, Bool, false, true, List, [], ◌++◌, codes}
use Rattle.ulfm_answer.specs.Report.{Report}
use Rattle.ulfm_forms.specs.Form.{trace_in}
use Rattle.ulfm_forms.specs.declared.form.Form.{Form}
use Rattle.ulfm_forms.specs.declared.form.Form.TheVariants.{Words, Json}
use Rattle.ulfm_job.specs.Job.{JobView}
use Rattle.ulfm_reader.specs.declared.name.Name.{Name}

-- whether a run came to rest, as an object: words have no line of it
abbrev pub rest_in : Form → Bool → List ℕ
rest_in (Words wording) is_at_rest = []
rest_in Json false = codes "{\"at_rest\":false}\n"
rest_in Json true = codes "{\"at_rest\":true}\n"

-- the trace of a run in this form, and below it whether the run came to rest
abbrev pub ran_in : Form → List Name → JobView → List Report → Bool → List ℕ
ran_in form names job reports is_at_rest = trace_in form names job reports ++ rest_in form is_at_rest
