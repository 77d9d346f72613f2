-- The trace as JSON, line by line.
use Rattle.std.specs.Prelude.{ℕ, ◌+◌, Bool, List, [], ◌∷◌, ◌++◌, Option, Some, None, codes, if◌then◌else◌}
use Rattle.std.specs.Fmt.{decimal}
use Rattle.std.specs.List.{flat_map}
use Rattle.ulfm_log.specs.Facts.{is_stopped}
use Rattle.ulfm_job.specs.Job.{JobView}
use Rattle.ulfm_job.specs.Words.{ToldStep, told_at}
use Rattle.ulfm_answer.specs.declared.answer.StepAnswer.{StepAnswer}
use Rattle.ulfm_answer.specs.declared.answer.StepReport.{StepReport}
use Rattle.ulfm_answer.specs.Report.{Report}
use Rattle.ulfm_forms.specs.Answer.{answer_json}
use Rattle.ulfm_forms.specs.Call.{call_json}
use Rattle.ulfm_reader.specs.Reacting.{name_at}
use Rattle.ulfm_reader.specs.declared.name.Name.{Name}

-- the key of a step's name, where it has one
abbrev pub name_json : Option (List ℕ) → List ℕ
name_json None = []
name_json (Some name) = codes ",\"name\":\"" ++ name ++ codes "\""

-- what a step asks for; a step that the job hasn't has no op
abbrev pub asked_json : Option ToldStep → List ℕ
asked_json None = codes "\"op\":null"
asked_json (Some step) = call_json step

-- the beginning of the object of a step: its rank, its number, its name, and what it asks for
abbrev pub head_json : List Name → ℕ → ℕ → Option ToldStep → List ℕ
head_json names r k step = codes "{\"rank\":" ++ decimal r ++ codes ",\"step\":" ++ decimal k ++ name_json (name_at names r k) ++ codes "," ++ asked_json step

-- the object of a step with its answer, but for its end
abbrev pub answered_json : List Name → ℕ → ℕ → Option ToldStep → StepAnswer → List ℕ
answered_json names r k step answer = head_json names r k step ++ codes ",\"answer\":" ++ answer_json answer

-- the line of a step with its answer
abbrev pub step_json : List Name → ℕ → ℕ → Option ToldStep → StepAnswer → List ℕ
step_json names r k step answer = answered_json names r k step answer ++ codes "}\n"

-- the lines of a rank's answered steps, the first of them numbered k
abbrev pub steps_json : List Name → JobView → ℕ → ℕ → List StepReport → List ℕ
steps_json names job r k [] = []
steps_json names job r k (report ∷ reports) = step_json names r k (told_at job r k) report.answer ++ steps_json names job r (k + 1) reports

-- the object of how a rank ended, and of how many of its turns took nothing since memory ran out
abbrev pub ended_json : ℕ → Bool → ℕ → List ℕ
ended_json r has_stopped starved = codes "{\"rank\":" ++ decimal r ++ codes ",\"end\":\"" ++ (if has_stopped then codes "stopped" else codes "done") ++ codes "\",\"starved\":" ++ decimal starved ++ codes "}"

-- its line
abbrev pub end_json : ℕ → Bool → ℕ → List ℕ
end_json r has_stopped starved = ended_json r has_stopped starved ++ codes "\n"

-- a rank's lines: its answered steps in order, then one that says how it ended
abbrev pub rank_json : List Name → JobView → Report → List ℕ
rank_json names job report = steps_json names job report.rank.me 0 report.steps ++ end_json report.rank.me (is_stopped report.rank.log) report.starved

-- the lines of all ranks, in the order of the reports, with the names of the job's steps
abbrev pub trace_json : List Name → JobView → List Report → List ℕ
trace_json names job reports = flat_map (rank_json names job) reports
