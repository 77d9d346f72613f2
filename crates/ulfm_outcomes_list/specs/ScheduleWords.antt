-- A schedule in plain words, or in MPI's.
use Rattle.std.specs.Prelude.{ℕ, true, false, List, [], ◌++◌, Option, Some, None, codes, length}
use Rattle.std.specs.Fmt.{decimal}
use Rattle.std.specs.List.{flat_map}
use Rattle.ulfm_answer.specs.declared.answer.StepAnswer.{StepAnswer}
use Rattle.ulfm_answer.specs.declared.answer.StepAnswer.TheVariants.{Unfinished}
use Rattle.ulfm_job.specs.Job.{JobView}
use Rattle.ulfm_job.specs.declared.step.Step.{Step}
use Rattle.ulfm_forms.specs.Worded.{answer_in}
use Rattle.ulfm_forms.specs.WordedTrace.{call_at, line_in, lines_in}
use Rattle.ulfm_forms.specs.declared.wording.Wording.{Wording}
use Rattle.ulfm_forms.specs.declared.wording.Wording.TheVariants.{Plain, Mpi}
use Rattle.ulfm_schedule.specs.Words.{end_text, open_text, passed_text, schedule_text}
use Rattle.ulfm_schedule.specs.declared.course.Course.{Course}
use Rattle.ulfm_schedule.specs.declared.moved.Deed.{Deed}
use Rattle.ulfm_schedule.specs.declared.moved.Deed.TheVariants.{Left, Took, Opened, Answered}
use Rattle.ulfm_schedule.specs.declared.moved.Move.{Move}
use Rattle.ulfm_schedule.specs.declared.schedule.Schedule.{Schedule}

-- the step k of the rank r of a job, by its place
abbrev pub placed_call : Wording → JobView → ℕ → ℕ → List ℕ
placed_call wording job r k = decimal r ++ codes "." ++ decimal k ++ codes " " ++ call_at wording job r k

-- the line of a step that has its answer
abbrev pub answered_in : Wording → JobView → ℕ → ℕ → StepAnswer → List ℕ
answered_in wording job r k answer = placed_call wording job r k ++ codes ": " ++ answer_in wording answer ++ codes "\n"

-- the line of what the rank r of a job does
abbrev pub deed_in : Wording → JobView → ℕ → Deed → List ℕ
deed_in wording job r (Left d cargo) = passed_text r false d cargo
deed_in wording job r (Took s cargo) = passed_text s true r cargo
deed_in wording job r (Opened k _) = placed_call wording job r k ++ codes ": open\n"
deed_in wording job r (Answered k report) = answered_in wording job r k report.answer

-- the line of a move
abbrev pub move_in : Wording → JobView → Move → List ℕ
move_in wording job m = deed_in wording job m.rank m.deed

-- the line of a step that stands open, as of one that is given up
abbrev pub left_in : Wording → JobView → ℕ → ℕ → Option Step → List ℕ
left_in wording job r k None = []
left_in wording job r k (Some asked) = line_in wording job r k Unfinished

-- the lines of a rank
abbrev pub course_in : Wording → JobView → Course → List ℕ
course_in wording job c = lines_in wording job c.rank 0 c.steps.items ++ left_in wording job c.rank (length c.steps.items) c.open ++ end_text c.rank c.end

-- a schedule of a job in MPI's words
abbrev pub mpi_schedule : JobView → Schedule → List ℕ
mpi_schedule job s = codes "events:\n" ++ flat_map (move_in Mpi job) s.moves.items ++ codes "trace:\n" ++ flat_map (course_in Mpi job) s.courses.items ++ open_text job s.waits

-- a schedule of a job in these words
abbrev pub schedule_in : Wording → JobView → Schedule → List ℕ
schedule_in Plain job s = schedule_text job s
schedule_in Mpi job s = mpi_schedule job s
