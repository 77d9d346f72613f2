-- The steps of a job as they are played: on communicators that earlier steps made, where they name these.
use Rattle.std.specs.Prelude.{◌+◌, ℕ, List, [], ◌∷◌, Option, Some, None, length, option_map, slice_get, take, unwrap_or}
use Rattle.std.proofs.Common.{arith}
use Rattle.ulfm_base.specs.declared.context.Context.{Context}
use Rattle.ulfm_job.specs.Job.{JobView, script_at}
use Rattle.ulfm_job.specs.Naming.{naming_at, played_on}
use Rattle.ulfm_job.specs.declared.naming.Naming.{Naming}
use Rattle.ulfm_job.specs.declared.step.Step.{Step}
use Rattle.ulfm_answer.specs.declared.answer.StepAnswer.{StepAnswer}
use Rattle.ulfm_answer.specs.declared.answer.StepAnswer.TheVariants.{Made, Shrunk}
use Rattle.ulfm_answer.specs.declared.answer.StepReport.{StepReport}

-- the communicator that an answer tells of, where it made one
abbrev pub made_of : StepAnswer → Option Context
made_of (Made child) = Some child.context
made_of (Shrunk child group me) = Some child.context
made_of _ = None

-- so of an answered step, where there is one
abbrev pub made_in : Option StepReport → Option Context
made_in None = None
made_in (Some report) = made_of report.answer

-- the communicator that the step of this number was answered, if it made one
abbrev pub made_at : List StepReport → ℕ → Option Context
made_at done k = made_in (slice_get done k)

-- a communicator that no rank makes: no path has its number
abbrev pub nowhere : Context
nowhere = record { number = 63; in_range = omega arith }

-- the communicator that a step names, behind these answers: that one, or where none was made one that no rank makes
abbrev pub meant_by : List StepReport → Naming → Context
meant_by done n = unwrap_or (made_at done n.step) nowhere

-- the step k of the rank r as it is played behind these answers
abbrev pub meant : JobView → ℕ → List StepReport → ℕ → Step → Step
meant j r done k asked = played_on (option_map (meant_by done) (naming_at j r k)) asked

-- the step k of the rank r as it is played behind these answers, if the job has it
abbrev pub played_at : JobView → ℕ → List StepReport → ℕ → Option Step
played_at j r done k = option_map (meant j r done k) (slice_get (script_at j r) k)

-- the next step of the rank r behind these answers, as it is played, if it has one left
abbrev pub next_step : JobView → ℕ → List StepReport → Option Step
next_step j r done = played_at j r done (length done)

-- these steps of the rank r, the first of which is numbered k, each as it is played behind the answers before it
abbrev pub meant_from : JobView → ℕ → List StepReport → ℕ → List Step → List Step
meant_from j r done k [] = []
meant_from j r done k (asked ∷ script) = meant j r (take k done) k asked ∷ meant_from j r done (k + 1) script

-- the script of the rank r as it is played by these answers
abbrev pub played_script : JobView → ℕ → List StepReport → List Step
played_script j r done = meant_from j r done 0 (script_at j r)
