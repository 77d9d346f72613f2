-- A sweep: a job replayed with one more stop, at each place in turn, and the answers of each replay counted.
use Rattle.std.specs.Prelude.{◌≡◌, ◌⊎◌, ℕ, ◌+◌, Bool, true, false, List, length, map, sum_by}
use Rattle.std.specs.List.{count_by, flat_map, range_with_len}
use Rattle.ulfm_job.specs.declared.fault.JobFault.TheVariants as refused
use Rattle.ulfm_job.specs.Job.{JobView, script_at, with_stop}
use Rattle.ulfm_answer.specs.declared.answer.StepAnswer.{StepAnswer}
use Rattle.ulfm_answer.specs.declared.answer.StepAnswer.TheVariants.{Done, Over, Pending, Refused}
use Rattle.ulfm_answer.specs.declared.answer.StepReport.{StepReport}
use Rattle.ulfm_script.specs.declared.fault.RunFault.TheVariants as failed
use Rattle.ulfm_answer.specs.Report.{Report, is_unfinished}
use Rattle.ulfm_replay.specs.declared.fault.SweepFault.{SweepFault}
use Rattle.ulfm_replay.specs.declared.fault.SweepFault.TheVariants.{Job, Run}
use Rattle.ulfm_replay.specs.declared.line.SweepLine.{SweepLine}
use Rattle.ulfm_world.specs.Replay.{MadeAtRest}

-- a wait, a late cancel or a receive of what a probe found got a letter
abbrev pub is_done : StepAnswer → Bool
is_done (Done _ _) = true
is_done _ = false

-- what such a step asks for is over
abbrev pub is_over : StepAnswer → Bool
is_over (Over _) = true
is_over _ = false

-- a wait met failures that aren't acknowledged
abbrev pub is_pending : StepAnswer → Bool
is_pending Pending = true
is_pending _ = false

-- a call was refused
abbrev pub is_refused : StepAnswer → Bool
is_refused (Refused _) = true
is_refused _ = false

-- how many answers of all ranks are of a kind
abbrev pub answers_of : (StepAnswer → Bool) → List Report → ℕ
answers_of is_kind reports = sum_by (λ (report : Report). count_by (λ (step : StepReport). is_kind step.answer) report.steps) reports

-- the line of a stop before the step `at` of the rank r, by the reports that came of it
abbrev pub line_of : ℕ → ℕ → List Report → SweepLine
line_of r at reports = record {
  rank = r;
  at = at;
  done = answers_of is_done reports;
  over = answers_of is_over reports;
  pending = answers_of is_pending reports;
  unfinished = answers_of is_unfinished reports;
  refused = answers_of is_refused reports;
}

-- the places of a stop in the script of the rank r: before each of its steps, and after the last one
abbrev pub places_in : JobView → ℕ → List (ℕ × ℕ)
places_in j r = map (λ at. (r, at)) (range_with_len 0 (length (script_at j r) + 1))

-- those of each rank, in the order of the ranks
abbrev pub places_of : JobView → List (ℕ × ℕ)
places_of j = flat_map (places_in j) (range_with_len 0 j.ranks)

-- the place of a line's stop
abbrev pub place_of : SweepLine → ℕ × ℕ
place_of line = (line.rank, line.at)

-- a line counts the answers in reports that a replay of the job with its stop gives
pub record IsSwept (j : JobView) (line : SweepLine) : Type 0 where
  pub reports : List Report
  pub settled : MadeAtRest (with_stop line.rank line.at j) reports
  pub counted : line ≡ line_of line.rank line.at reports

-- memory ran out, as the job was made or as it ran
abbrev pub IsStarved : SweepFault → Type 0
IsStarved fault = (fault ≡ Job refused.OutOfMemory) ⊎ (fault ≡ Run failed.OutOfMemory)
