-- What `sweep` writes for a job.
use Rattle.std.specs.Prelude.{◌≡◌, ◌≢◌, ℕ, List, ◌++◌, map, Ok, Err, All, codes}
use Rattle.std.specs.Fmt.{decimal}
use Rattle.std.specs.List.{flat_map}
use Rattle.ulfm_job.specs.declared.fault.JobFault.{JobFault}
use Rattle.ulfm_job.specs.declared.fault.JobFault.TheVariants.{OutOfMemory, TooLarge}
use Rattle.ulfm_job.specs.Job.{JobView, step_count}
use Rattle.ulfm_reader.specs.JobText.{job_of_bytes}
use Rattle.ulfm_reader.specs.Plan.{plan_of}
use Rattle.ulfm_replay.specs.Sweep.{IsSwept, place_of, places_of}
use Rattle.ulfm_replay.specs.declared.line.SweepLine.{SweepLine}
use Rattle.ulfm_forms.specs.declared.form.Form.{Form}
use Rattle.ulfm_forms.specs.declared.form.Form.TheVariants.{Words, Json}
use Rattle.ulfm_command_line.specs.Failure.{out_of_memory_in}
use Rattle.ulfm_command_line.specs.Replies.{refused_in}

-- where the stop was put, and how many answers of each kind all ranks got
abbrev pub sweep_line : SweepLine → List ℕ
sweep_line line = codes "stop " ++ decimal line.rank ++ codes " at " ++ decimal line.at ++ codes ": done " ++ decimal line.done ++ codes " over " ++ decimal line.over
    ++ codes " pending " ++ decimal line.pending ++ codes " unfinished " ++ decimal line.unfinished ++ codes " refused " ++ decimal line.refused ++ codes "\n"

-- where the stop was put, and how many answers of each kind all ranks got, as an object
abbrev pub sweep_json : SweepLine → List ℕ
sweep_json line = codes "{\"stop\":" ++ decimal line.rank ++ codes ",\"at\":" ++ decimal line.at ++ codes ",\"done\":" ++ decimal line.done ++ codes ",\"over\":" ++ decimal line.over
    ++ codes ",\"pending\":" ++ decimal line.pending ++ codes ",\"unfinished\":" ++ decimal line.unfinished ++ codes ",\"refused\":" ++ decimal line.refused ++ codes "}\n"

-- a line in this form
abbrev pub sweep_line_in : Form → SweepLine → List ℕ
sweep_line_in (Words wording) line = sweep_line line
sweep_line_in Json line = sweep_json line

-- all lines, in their order
abbrev pub sweep_in : Form → List SweepLine → List ℕ
sweep_in form lines = flat_map (sweep_line_in form) lines

-- The status and the text, in this form, that `sweep` gives for these bytes: with 0 a line for each place of a stop in their job, in order, which counts
-- the answers of a replay with that stop; with 1 the line of the job's refusal, which is J6 too where it has 256 steps, or J7; with 3 the
-- line that memory ran out.
pub data IsSweepReply (form : Form) (bytes : List ℕ) : ℕ → List ℕ → Type 0 where
  swept : (job : JobView) (lines : List SweepLine) → job_of_bytes bytes ≡ Ok (plan_of job) → step_count job.scripts ≢ 256
      → map place_of lines ≡ places_of job → All (IsSwept job) lines
      → IsSweepReply form bytes 0 (sweep_in form lines)
  unread : (f : JobFault) → job_of_bytes bytes ≡ Err f → IsSweepReply form bytes 1 (refused_in form f)
  full : (job : JobView) → job_of_bytes bytes ≡ Ok (plan_of job) → step_count job.scripts ≡ 256 → IsSweepReply form bytes 1 (refused_in form TooLarge)
  unmade : IsSweepReply form bytes 1 (refused_in form OutOfMemory)
  unswept : IsSweepReply form bytes 3 (out_of_memory_in form)
