-- The trace in plain words, or in MPI's.
use Rattle.std.specs.Prelude.{ℕ, ◌+◌, List, [], ◌∷◌, ◌++◌, Option, Some, None, codes}
use Rattle.std.specs.Fmt.{decimal}
use Rattle.std.specs.List.{flat_map}
use Rattle.ulfm_answer.specs.Report.{Report}
use Rattle.ulfm_answer.specs.Trace.{closing_line, trace_of}
use Rattle.ulfm_answer.specs.declared.answer.StepAnswer.{StepAnswer}
use Rattle.ulfm_answer.specs.declared.answer.StepReport.{StepReport}
use Rattle.ulfm_job.specs.Job.{JobView}
use Rattle.ulfm_job.specs.Words.{ToldStep, told_at}
use Rattle.ulfm_forms.specs.Worded.{answer_in, call_in}
use Rattle.ulfm_forms.specs.declared.wording.Wording.{Wording}
use Rattle.ulfm_forms.specs.declared.wording.Wording.TheVariants.{Plain, Mpi}
use Rattle.ulfm_log.specs.Facts.{is_stopped}

-- a step in these words, if the job has it
abbrev pub asked_in : Wording → Option ToldStep → List ℕ
asked_in wording None = []
asked_in wording (Some step) = call_in wording step

-- the step k of the rank r of a job in these words
abbrev pub call_at : Wording → JobView → ℕ → ℕ → List ℕ
call_at wording job r k = asked_in wording (told_at job r k)

-- the line of an answered step
abbrev pub line_in : Wording → JobView → ℕ → ℕ → StepAnswer → List ℕ
line_in wording job r k answer = decimal r ++ codes " " ++ decimal k ++ codes " " ++ call_at wording job r k ++ codes ": " ++ answer_in wording answer ++ codes "\n"

-- the lines of a rank's answered steps, the first of them numbered k
abbrev pub lines_in : Wording → JobView → ℕ → ℕ → List StepReport → List ℕ
lines_in wording job r k [] = []
lines_in wording job r k (report ∷ reports) = line_in wording job r k report.answer ++ lines_in wording job r (k + 1) reports

-- a rank's lines: its answered steps in order, then one that says how it ended
abbrev pub rank_in : Wording → JobView → Report → List ℕ
rank_in wording job report = lines_in wording job report.rank.me 0 report.steps ++ closing_line report.rank.me (is_stopped report.rank.log) report.starved

-- the trace of a job's reports in these words
abbrev pub words_of : Wording → JobView → List Report → List ℕ
words_of Plain job reports = trace_of job reports
words_of Mpi job reports = flat_map (rank_in Mpi job) reports
