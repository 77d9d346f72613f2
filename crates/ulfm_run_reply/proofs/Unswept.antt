-- The replies to a job that can't be swept.
use Rattle.std.proofs.Common.{◌≡◌, ◌≢◌, ◌∙◌, ℕ, List, Result, Ok, Err, inl, inr, sym}
use Rattle.std.proofs.lemmas.Bool.{cases_eq}
use Rattle.ulfm_job.specs.declared.fault.JobFault.{JobFault}
use Rattle.ulfm_job.specs.declared.fault.JobFault.TheVariants.{NotToml, InJob, InStep, TooLarge, OutOfMemory}
use Rattle.ulfm_job.specs.Job.{JobView, step_count}
use Rattle.ulfm_reader.specs.JobText.{job_of_bytes}
use Rattle.ulfm_reader.specs.Plan.{plan_of}
use Rattle.ulfm_replay.specs.Sweep.{IsStarved}
use Rattle.ulfm_replay.specs.declared.fault.SweepFault.{SweepFault}
use Rattle.ulfm_replay.specs.declared.fault.SweepFault.TheVariants.{Job}
use Rattle.ulfm_forms.specs.declared.form.Form.{Form}
use Rattle.ulfm_command_line.specs.Replies.{refused_in}
use Rattle.ulfm_run_reply.specs.Sweep.{IsSweepReply, unread, full, unmade}

-- a text that is refused
pub sweep_refused : {form : Form} (f : JobFault) (bytes : List ℕ) → (f ≢ OutOfMemory → job_of_bytes bytes ≡ Err f) → IsSweepReply form bytes 1 (refused_in form f)
sweep_refused NotToml bytes h = unread _ (h (λ e. cc))
sweep_refused (InJob f) bytes h = unread _ (h (λ e. cc))
sweep_refused (InStep f k) bytes h = unread _ (h (λ e. cc))
sweep_refused TooLarge bytes h = unread _ (h (λ e. cc))
sweep_refused OutOfMemory bytes h = unmade

-- out of memory is the one fault by which a job with a stop isn't made, where it has room for that stop
only_memory : (f : JobFault) → IsStarved (Job f) → f ≡ OutOfMemory
only_memory f (inl e) = cc
only_memory f (inr e) = absurd cc

-- a good job that has too many steps, or whose stops find no memory
pub sweep_unmade : {form : Form} {A : Type 0} (job : JobView) (f : JobFault) (x : SweepFault) (r : Result A SweepFault) (bytes : List ℕ) → job_of_bytes bytes ≡ Ok (plan_of job) → r ≡ Err x → x ≡ Job f
    → (step_count job.scripts ≡ 256 → r ≡ Err (Job TooLarge)) → (step_count job.scripts ≢ 256 → IsStarved x)
    → IsSweepReply form bytes 1 (refused_in form f)
sweep_unmade job f x r bytes h fails is many starved = elim (cases_eq (step_count job.scripts) 256) [
  | inl all ↦ let same : f ≡ TooLarge = cc (fails, is, many all) in rw same (full job h all)
  | inr few ↦ rw (only_memory f (rw is at (starved few))) unmade
]

-- a result is one of both
pub not_both : {A B : Type 0} (r : Result A B) (x : A) (e : B) → r ≡ Ok x → r ≡ Err e → ⊥
not_both r x e is other =
    let both : Ok x ≡ Err e = sym is ∙ other in
    let bad : ⊥ = cc in
    bad
