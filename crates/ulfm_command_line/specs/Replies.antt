-- What `check` writes for a job, and what is written for one that is refused.
use Rattle.std.specs.Prelude.{◌≡◌, ℕ, List, ◌++◌, Ok, Err, codes}
use Rattle.std.specs.Fmt.{decimal}
use Rattle.ulfm_job.specs.declared.fault.Fault.{Fault}
use Rattle.ulfm_job.specs.declared.fault.Fault.TheVariants.{BadKey, UnknownKey, OutOfRange, UnknownOp}
use Rattle.ulfm_job.specs.declared.fault.JobFault.{JobFault}
use Rattle.ulfm_job.specs.declared.fault.JobFault.TheVariants.{NotToml, InJob, InStep, TooLarge, OutOfMemory}
use Rattle.ulfm_job.specs.Job.{JobView, step_count}
use Rattle.ulfm_reader.specs.Plan.{plan_of}
use Rattle.ulfm_reader.specs.JobText.{job_of_bytes}
use Rattle.ulfm_forms.specs.declared.form.Form.{Form}
use Rattle.ulfm_forms.specs.declared.form.Form.TheVariants.{Words, Json}
use Rattle.ulfm_command_line.specs.Failure.{out_of_memory_in}

-- how a fault of a table of keys is printed
abbrev pub fault_text : Fault → List ℕ
fault_text BadKey = codes "J2"
fault_text UnknownKey = codes "J3"
fault_text OutOfRange = codes "J4"
fault_text UnknownOp = codes "J5"

-- how a refusal of a job is printed
abbrev pub job_fault_text : JobFault → List ℕ
job_fault_text NotToml = codes "J1"
job_fault_text (InJob f) = fault_text f
job_fault_text (InStep f k) = fault_text f ++ codes " step " ++ decimal k
job_fault_text TooLarge = codes "J6"
job_fault_text OutOfMemory = codes "J7"

-- the line for a job that is refused
abbrev pub refused_text : JobFault → List ℕ
refused_text f = codes "job refused: " ++ job_fault_text f ++ codes "\n"

-- the keys of a refusal of a job
abbrev pub job_fault_json : JobFault → List ℕ
job_fault_json NotToml = codes "\"J1\""
job_fault_json (InJob f) = codes "\"" ++ fault_text f ++ codes "\""
job_fault_json (InStep f k) = codes "\"" ++ fault_text f ++ codes "\",\"step\":" ++ decimal k
job_fault_json TooLarge = codes "\"J6\""
job_fault_json OutOfMemory = codes "\"J7\""

-- the object for a job that is refused
abbrev pub refused_json : JobFault → List ℕ
refused_json f = codes "{\"refused\":" ++ job_fault_json f ++ codes "}\n"

-- either, in this form
abbrev pub refused_in : Form → JobFault → List ℕ
refused_in (Words wording) f = refused_text f
refused_in Json f = refused_json f

-- the line for a good job
unfoldable pub good_line : ℕ → ℕ → List ℕ
good_line ranks steps = codes "job ok: " ++ decimal ranks ++ codes " ranks " ++ decimal steps ++ codes " steps\n"

-- the object for a good job
unfoldable pub good_json : ℕ → ℕ → List ℕ
good_json ranks steps = codes "{\"job\":\"ok\",\"ranks\":" ++ decimal ranks ++ codes ",\"steps\":" ++ decimal steps ++ codes "}\n"

-- either, in this form
abbrev pub good_in : Form → ℕ → ℕ → List ℕ
good_in (Words wording) ranks steps = good_line ranks steps
good_in Json ranks steps = good_json ranks steps

-- The status and the text, in this form, that `check` gives for these bytes: the line of their job with 0, of its refusal with 1,
-- which may be J7, or with 3 the line that memory ran out.
pub data IsCheckReply (form : Form) (bytes : List ℕ) : ℕ → List ℕ → Type 0 where
  good : (job : JobView) → job_of_bytes bytes ≡ Ok (plan_of job) → IsCheckReply form bytes 0 (good_in form job.ranks (step_count job.scripts))
  refused : (f : JobFault) → job_of_bytes bytes ≡ Err f → IsCheckReply form bytes 1 (refused_in form f)
  no_memory : IsCheckReply form bytes 1 (refused_in form OutOfMemory)
  starved : IsCheckReply form bytes 3 (out_of_memory_in form)
