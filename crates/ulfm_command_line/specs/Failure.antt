-- Why a run has no trace, and how that is printed.
use Rattle.std.specs.Prelude.{ℕ, List, codes}
use Rattle.ulfm_forms.specs.declared.form.Form.{Form}
use Rattle.ulfm_forms.specs.declared.form.Form.TheVariants.{Words, Json}
use Rattle.ulfm_command_line.specs.declared.failure.Failure.{Failure}
use Rattle.ulfm_command_line.specs.declared.failure.Failure.TheVariants as run

-- the line for a run that failed
abbrev pub failed_text : Failure → List ℕ
failed_text run.NoThread = codes "run failed: F2\n"
failed_text run.OutOfMemory = codes "run failed: F3\n"
failed_text run.Untrue = codes "run failed: F4\n"

-- the object for a run that failed
abbrev pub failed_json : Failure → List ℕ
failed_json run.NoThread = codes "{\"failed\":\"F2\"}\n"
failed_json run.OutOfMemory = codes "{\"failed\":\"F3\"}\n"
failed_json run.Untrue = codes "{\"failed\":\"F4\"}\n"

-- either, in this form
abbrev pub failed_in : Form → Failure → List ℕ
failed_in (Words wording) failure = failed_text failure
failed_in Json failure = failed_json failure

-- the line for a run that found no memory, in this form
abbrev pub out_of_memory_in : Form → List ℕ
out_of_memory_in form = failed_in form run.OutOfMemory

-- the line in words for a run that found no memory
abbrev pub out_of_memory_text : List ℕ
out_of_memory_text = failed_text run.OutOfMemory
