-- A schedule as an array of objects: its events, the trace that it leaves, and what steps wait for that stand open.
use Rattle.std.specs.Prelude.{ℕ, ◌+◌, true, false, List, [], ◌∷◌, ◌++◌, Option, Some, None, Vec, codes, length, map}
use Rattle.std.specs.Fmt.{decimal}
use Rattle.std.specs.List.{flat_map}
use Rattle.std.specs.declared.alloc.Global.{Global}
use Rattle.ulfm_answer.specs.declared.answer.StepAnswer.{StepAnswer}
use Rattle.ulfm_answer.specs.declared.answer.StepAnswer.TheVariants.{Unfinished}
use Rattle.ulfm_answer.specs.declared.answer.StepReport.{StepReport}
use Rattle.ulfm_job.specs.Job.{JobView}
use Rattle.ulfm_job.specs.Words.{told_at}
use Rattle.ulfm_job.specs.declared.step.Step.{Step}
use Rattle.ulfm_forms.specs.Parts.{objects_json}
use Rattle.ulfm_forms.specs.Trace.{answered_json, ended_json}
use Rattle.ulfm_schedule.specs.declared.course.Course.{Course}
use Rattle.ulfm_schedule.specs.declared.course.End.{End}
use Rattle.ulfm_schedule.specs.declared.course.End.TheVariants.{Done, Stopped, Unreached}
use Rattle.ulfm_schedule.specs.declared.schedule.Schedule.{Schedule}
use Rattle.ulfm_reader.specs.declared.name.Name.{Name}
use Rattle.ulfm_schedule.specs.declared.wait.Wait.{Wait}
use Rattle.ulfm_outcomes_list.specs.Events.{move_json}
use Rattle.ulfm_outcomes_list.specs.Waits.{wait_json}

-- the step k of the rank r with its answer
abbrev pub step_object : List Name → JobView → ℕ → ℕ → StepAnswer → List ℕ
step_object names job r k answer = answered_json names r k (told_at job r k) answer ++ codes "}"

-- the answered steps of a rank, the first of them numbered k
abbrev pub step_objects : List Name → JobView → ℕ → ℕ → List StepReport → List (List ℕ)
step_objects names job r k [] = []
step_objects names job r k (report ∷ reports) = step_object names job r k report.answer ∷ step_objects names job r (k + 1) reports

-- the step k of the rank r, if it stands open: it is unfinished
abbrev pub open_objects : List Name → JobView → ℕ → ℕ → Option Step → List (List ℕ)
open_objects names job r k None = []
open_objects names job r k (Some call) = step_object names job r k Unfinished ∷ []

-- how a rank ended; one with steps left has no end
abbrev pub end_object : ℕ → End → List ℕ
end_object r Done = ended_json r false 0
end_object r Stopped = ended_json r true 0
end_object r Unreached = codes "{\"rank\":" ++ decimal r ++ codes ",\"end\":null}"

-- what came of a rank
abbrev pub course_objects : List Name → JobView → Course → List (List ℕ)
course_objects names job c = step_objects names job c.rank 0 c.steps.items ++ open_objects names job c.rank (length c.steps.items) c.open ++ end_object c.rank c.end ∷ []

-- what steps wait for, if that is told
abbrev pub waits_objects : List Name → JobView → Option (Vec Wait Global) → List (List ℕ)
waits_objects names job None = []
waits_objects names job (Some waits) = map (wait_json names job) waits.items

-- the objects of a schedule of a job whose steps have these names
abbrev pub schedule_objects : List Name → JobView → Schedule → List (List ℕ)
schedule_objects names job s = map (move_json names job) s.moves.items ++ flat_map (course_objects names job) s.courses.items ++ waits_objects names job s.waits

-- the array of them
abbrev pub schedule_json : List Name → JobView → Schedule → List ℕ
schedule_json names job s = objects_json (schedule_objects names job s)
