-- How a player goes through its script, with at most so many polls of a step.
use Rattle.std.specs.Prelude.{◌≡◌, ◌⊎◌, ℕ, Bool, true, false, List, [], ◌∷◌, ◌<◌, ◌≤◌, map, All, Some, None, slice_get, if◌then◌else◌}
use Rattle.ulfm_job.specs.declared.step.Step.{Step}
use Rattle.ulfm_answer.specs.declared.answer.StepAnswer.{StepAnswer}
use Rattle.ulfm_answer.specs.declared.answer.StepAnswer.TheVariants.{Unfinished, Skipped}
use Rattle.ulfm_answer.specs.declared.answer.StepReport.{StepReport}
use Rattle.ulfm_script.specs.Player.{Player}
use Rattle.ulfm_job.specs.Job.{JobView, is_stop_step, may_leave}
use Rattle.ulfm_script.specs.Meant.{played_script}
use Rattle.ulfm_answer.specs.Report.{is_skipped, is_unfinished}
use Rattle.ulfm_answer.specs.Reacting.{SkipsRightly}

-- the step of a report
abbrev pub reported_step : StepReport → Step
reported_step report = report.step

-- the steps that have their answers
abbrev pub steps_done : Player → List Step
steps_done p = map reported_step p.done

-- so many polls left a step with this answer open: at most all that a job grants where it was given up, none where it was skipped, else fewer
abbrev pub IsPolled : ℕ → StepAnswer → ℕ → Type 0
IsPolled turns Unfinished polls = polls ≤ turns
IsPolled turns Skipped polls = polls ≡ 0
IsPolled turns _ polls = polls < turns

-- a step was given up after some poll, answered by one, or skipped without any
abbrev pub IsPatient : ℕ → StepReport → Type 0
IsPatient turns report = IsPolled turns report.answer report.polls

-- each step of the rank r that was given up got all polls that the job grants, or is one that may be given up before
abbrev pub GivesUpRightly : JobView → ℕ → List StepReport → Type 0
GivesUpRightly j r done =
    (k : ℕ) (report : StepReport) → slice_get done k ≡ Some report
    → is_unfinished report.answer ≡ true → (report.polls ≡ j.turns) ⊎ (may_leave j r k ≡ true)

-- a stop that was played
abbrev pub is_played_stop : StepReport → Bool
is_played_stop report = if is_skipped report.answer then false else is_stop_step report.step

-- a script up to and with the first stop that is played by these reports of its steps, or the whole of it
abbrev pub through_stop : List StepReport → List Step → List Step
through_stop [] script = script
through_stop (report ∷ reports) [] = []
through_stop (report ∷ reports) (x ∷ xs) = if is_played_stop report then x ∷ [] else x ∷ through_stop reports xs

-- a player answered the script of the rank r up to and with the first stop that it played, or the whole of it, and has no step open
pub record HasFinished (j : JobView) (r : ℕ) (p : Player) : Type 0 where
  pub steps : steps_done p ≡ through_stop p.done (played_script j r p.done)
  pub patient : All (IsPatient j.turns) p.done
  pub gives : GivesUpRightly j r p.done
  pub skips : SkipsRightly j.conditions r p.done
  pub closed : p.current ≡ None
