-- The forms of a trace.
use Rattle.std.specs.Prelude.{ℕ, List}
use Rattle.ulfm_job.specs.Job.{JobView}
use Rattle.ulfm_reader.specs.declared.name.Name.{Name}
use Rattle.ulfm_answer.specs.Report.{Report}
use Rattle.ulfm_forms.specs.Trace.{trace_json}
use Rattle.ulfm_forms.specs.WordedTrace.{words_of}
use Rattle.ulfm_forms.specs.declared.form.Form.{Form}
use Rattle.ulfm_forms.specs.declared.form.Form.TheVariants.{Words, Json}
use Rattle.ulfm_forms.specs.declared.wording.Wording.{Wording}
use Rattle.ulfm_forms.specs.declared.wording.Wording.TheVariants.{Plain}

-- the words of calls and answers: objects have plain ones
abbrev pub wording : Form → Wording
wording (Words words) = words
wording Json = Plain

-- the trace of reports of a job whose steps have these names, in this form
abbrev pub trace_in : Form → List Name → JobView → List Report → List ℕ
trace_in (Words words) names job reports = words_of words job reports
trace_in Json names job reports = trace_json names job reports
