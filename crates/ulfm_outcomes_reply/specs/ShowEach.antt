-- What `outcomes --stops --show` writes for a job.
use Rattle.std.specs.Prelude.{◌≡◌, ◌<◌, ℕ, ◌+◌, List, None, Ok, Err, Some, All, length, slice_get, take}
use Rattle.ulfm_job.specs.declared.clause.Clause.{Clause}
use Rattle.ulfm_job.specs.declared.fault.JobFault.TheVariants.{TooLarge}
use Rattle.ulfm_job.specs.Job.{JobView, script_at, step_count}
use Rattle.ulfm_job.specs.Place.{job_at}
use Rattle.ulfm_job.specs.Places.{places_of}
use Rattle.ulfm_job.specs.declared.place.Place.{Place}
use Rattle.ulfm_job.specs.declared.place.Place.TheVariants.{Nowhere, One, Two}
use Rattle.ulfm_job.specs.declared.stop.Stop.{Stop}
use Rattle.ulfm_outcomes_spec.specs.Goals.{IsPossible}
use Rattle.ulfm_outcomes_spec.specs.Told.{IsTold}
use Rattle.ulfm_outcomes_list.specs.Goals.{AreOfClauses}
use Rattle.ulfm_outcomes_list.specs.declared.goals.Goals.{Goals}
use Rattle.ulfm_forms.specs.declared.form.Form.{Form}
use Rattle.ulfm_command_line.specs.Failure.{out_of_memory_in}
use Rattle.ulfm_command_line.specs.Replies.{refused_in}
use Rattle.ulfm_command_line.specs.Stopped.{Asked, IsAskedAt, IsRefusal, asked_at, clauses_beside}
use Rattle.ulfm_command_line.specs.Unknown.{no_goal}
use Rattle.ulfm_command_line.specs.declared.command.ListOptions.{ListOptions}
use Rattle.ulfm_outcomes_reply.specs.Outcomes.{goals_asked, nowhere_in}
use Rattle.ulfm_outcomes_list.specs.Told.{told_in}
use Rattle.ulfm_outcomes_list.specs.declared.search_result.Told.{Told}
use Rattle.ulfm_outcomes_list.specs.declared.search_result.Told.TheVariants as told
use Rattle.ulfm_schedule.specs.declared.schedule.Schedule.{Schedule}

-- clauses of the file's steps, by the numbers that these have beside a stop
abbrev pub beside : JobView → Stop → List Clause → List Clause
beside j stop clauses = clauses_beside stop (length (script_at j stop.rank)) clauses

-- by those that they have in the job at a place
abbrev pub clauses_at : Place → JobView → List Clause → List Clause
clauses_at Nowhere j clauses = clauses
clauses_at (One stop) j clauses = beside j stop clauses
clauses_at (Two first second) j clauses = beside j second (beside j first clauses)

-- goals are what clauses of the file's steps ask for of the job at a place
abbrev pub AreGoalsAt : Place → JobView → List Clause → Goals → Type 0
AreGoalsAt place j clauses goals = AreOfClauses (job_at place j) (clauses_at place j clauses) goals

-- no schedule of the job at a place has all these answers
abbrev pub IsNowhereAt : JobView → List Clause → Place → Type 0
IsNowhereAt j clauses place = (goals : Goals) × AreGoalsAt place j clauses goals × ¬ IsPossible (job_at place j) goals

-- this is one of the job's places with at most so many stops, and at none before it a schedule has all these answers
pub record IsFirstPlace (j : JobView) (clauses : List Clause) (stops : ℕ) (place : Place) : Type 0 where
  pub number : ℕ
  pub there : slice_get (places_of stops j) number ≡ Some place
  pub before : All (IsNowhereAt j clauses) (take number (places_of stops j))

-- what is told of a search at a place, by what is asked for there
abbrev pub told_at_place : Form → Place → Asked → Told → List ℕ
told_at_place form place asked what = told_in form (Some place) (asked_at place asked).names (asked_at place asked).job what

-- The status and the text, in this form, that `outcomes --stops --show` gives for these bytes: with 0 the first place at which a schedule
-- has all answers that the text names, by the numbers that steps have in the file, and that schedule, or a picture of it with `--draw`;
-- with 8 that there is none; with 7 the first place at which it can't be looked for within the limit; with 1 the first part of the text
-- that names no answer of the job, or the line of the job's refusal, also of one that has no room for so many stops.
pub data IsShowEachReply (form : Form) (options : ListOptions) (stops : ℕ) (show bytes : List ℕ) : ℕ → List ℕ → Type 0 where
  shown_at : (asked : Asked) (answers : List Clause) (place : Place) → IsAskedAt Nowhere bytes asked → goals_asked asked show ≡ Ok answers → IsFirstPlace asked.job answers stops place
      → (goals : Goals) → AreGoalsAt place asked.job answers goals → (schedule : Schedule) (text : List ℕ) → IsTold (job_at place asked.job) goals options.is_brief options.limit (told.Schedule schedule)
      → (options.drawn ≡ None → text ≡ told_at_place form place asked (told.Schedule schedule)) → IsShowEachReply form options stops show bytes 0 text
  nowhere_at_all : (asked : Asked) (answers : List Clause) → IsAskedAt Nowhere bytes asked → goals_asked asked show ≡ Ok answers → All (IsNowhereAt asked.job answers) (places_of stops asked.job)
      → IsShowEachReply form options stops show bytes 8 (nowhere_in form)
  too_many_at : (asked : Asked) (answers : List Clause) (place : Place) → IsAskedAt Nowhere bytes asked → goals_asked asked show ≡ Ok answers → IsFirstPlace asked.job answers stops place
      → (goals : Goals) → AreGoalsAt place asked.job answers goals → IsTold (job_at place asked.job) goals options.is_brief options.limit (told.Many options.limit)
      → IsShowEachReply form options stops show bytes 7 (told_at_place form place asked (told.Many options.limit))
  unnamed_at_all : (asked : Asked) (text : List ℕ) → IsAskedAt Nowhere bytes asked → goals_asked asked show ≡ Err text → IsShowEachReply form options stops show bytes 1 (no_goal text)
  no_room_to_show : (asked : Asked) → IsAskedAt Nowhere bytes asked → 256 < step_count asked.job.scripts + stops → IsShowEachReply form options stops show bytes 1 (refused_in form TooLarge)
  not_shown_at_all : (status : ℕ) (text : List ℕ) → IsRefusal form Nowhere bytes status text → IsShowEachReply form options stops show bytes status text
  no_memory_to_show_each : IsShowEachReply form options stops show bytes 3 (out_of_memory_in form)
