-- Runs that fail.
use Rattle.std.proofs.Common.{◌≡◌, ℕ, List, Option, Some, None, refl, inl, inr}
use Rattle.std.specs.declared.alloc.Global.{Global}
use Rattle.std.specs.declared.vec.Vec.{Vec}
use Rattle.ulfm_job.specs.Job.{JobView}
use Rattle.ulfm_run.specs.Fault.{ShowUntrue}
use Rattle.ulfm_answer.specs.Report.{Report}
use Rattle.ulfm_script.specs.declared.fault.RunFault.{RunFault}
use Rattle.ulfm_script.specs.declared.fault.RunFault.TheVariants as faults
use Rattle.ulfm_forms.specs.declared.form.Form.{Form}
use Rattle.ulfm_command_line.specs.declared.command.RunOptions.{RunOptions}
use Rattle.ulfm_command_line.specs.Failure.{failed_in}
use Rattle.ulfm_run_reply.specs.Failing.{failure_of}
use Rattle.ulfm_command_line.specs.Stopped.{Asked, IsAskedAt}
use Rattle.ulfm_command_line.specs.declared.failure.Failure.{Failure}
use Rattle.ulfm_command_line.specs.declared.failure.Failure.TheVariants as run
use Rattle.ulfm_run_reply.specs.Played.{IsRunReply, no_thread, untrue, crowded, fell, given_turns}
use Rattle.ulfm_run_reply.specs.inside.Shown.{IsShown}

pub run_failed : (form : Form) {options : RunOptions} (asked : Asked) (f : Failure) (bytes : List ℕ) → IsAskedAt options.place bytes asked → IsShown (given_turns options.turns asked.job) f → IsRunReply form options bytes 3 (failed_in form f)
run_failed form asked run.NoThread bytes h s = no_thread asked h
run_failed form asked run.OutOfMemory bytes h s = fell
run_failed form asked run.Untrue bytes h s = elim (s.1) [
  | inl shows ↦ untrue asked s.0 h shows
  | inr full ↦ crowded asked s.0 h full
]

-- the reports of a fault show the failure that it is
pub shown : (job : JobView) (fault : RunFault) (f : Failure) → ((reports : Vec Report Global) → fault ≡ faults.Untrue reports → ShowUntrue job reports.items) → failure_of fault ≡ Some f → IsShown job f
shown job fault run.NoThread h e = tt
shown job fault run.OutOfMemory h e = tt
shown job (faults.Untrue reports) run.Untrue h e = (reports.items, inl (h reports refl))
shown job faults.NoThread run.Untrue h e = absurd cc
shown job faults.OutOfMemory run.Untrue h e = absurd cc
shown job faults.BadEnds run.Untrue h e = absurd cc

-- no number is given
pub without_repeat : (o : Option ℕ) → ((n : ℕ) → o ≡ Some n → ⊥) → o ≡ None
without_repeat None h = refl
without_repeat (Some n) h = absurd (h n refl)
