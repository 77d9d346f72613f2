-- What a job doesn't want, and what is told of it: below a list, or at a place.
use Rattle.std.specs.Prelude.{◌≡◌, ◌⊎◌, ℕ, ◌==◌, ◌&&◌, not, Bool, false, true, List, Option, Some, None, All as Each, length, slice_get, take}
use Rattle.ulfm_job.specs.declared.clause.Clause.{Clause}
use Rattle.ulfm_job.specs.Job.{JobView}
use Rattle.ulfm_reach.specs.declared.reach.Reach.TheVariants.{All}
use Rattle.ulfm_job.specs.declared.place.Place.{Place}
use Rattle.ulfm_outcomes_spec.specs.Goals.{IsPossible, is_some_open}
use Rattle.ulfm_outcomes_spec.specs.Outcomes.{IsList}
use Rattle.ulfm_outcomes_spec.specs.Told.{IsTold}
use Rattle.ulfm_outcomes_spec.specs.Unmet.{MeetsExpected}
use Rattle.ulfm_outcomes_list.specs.Goals.{AreOfClauses}
use Rattle.ulfm_outcomes_list.specs.Judgement.{unmet_judgement}
use Rattle.ulfm_outcomes_list.specs.Unmet.{IsUnmet, first_unmet}
use Rattle.ulfm_outcomes_list.specs.declared.goals.Goals.{Goals}
use Rattle.ulfm_outcomes_list.specs.declared.judgement.Judgement.{Judgement}
use Rattle.ulfm_outcomes_list.specs.declared.judgement.Judgement.TheVariants.{ComeTogether, NotKnown}
use Rattle.ulfm_outcomes_list.specs.declared.unmet.Unmet.{Unmet}
use Rattle.ulfm_forms.specs.declared.form.Form.{Form}
use Rattle.ulfm_outcomes_list.specs.Numbers.{filed_number}
use Rattle.ulfm_outcomes_list.specs.Told.{row_in, unmet_in}
use Rattle.ulfm_outcomes_list.specs.declared.search_result.Told.{Told}
use Rattle.ulfm_outcomes_list.specs.declared.search_result.Told.TheVariants as told
use Rattle.ulfm_schedule.specs.declared.schedule.Schedule.{Schedule}
use Rattle.ulfm_command_line.specs.Asking.{is_looked_at}
use Rattle.ulfm_command_line.specs.Stopped.{Asked}
use Rattle.ulfm_command_line.specs.declared.command.ListOptions.{ListOptions}

-- these are the rows of a list of all outcomes of the job
abbrev pub HasList : JobView → ℕ → List (List ℕ) → Type 0
HasList job limit found = (keys : List (List ℕ)) × IsList job limit (All (record { keys = keys; found = found }))

-- the row is looked at, and these goals are what its answers ask for
abbrev pub AreOfRow : JobView → List Clause → Goals → Type 0
AreOfRow job row goals = (is_looked_at job row ≡ true) × AreOfClauses job row goals

-- no schedule of the job has all answers of the row, if it is looked at
abbrev pub NeverComes : JobView → List Clause → Type 0
NeverComes job row = is_looked_at job row ≡ true → (goals : Goals) × AreOfClauses job row goals × ¬ IsPossible job goals

-- none has those of one of these rows
abbrev pub NoneComes : JobView → List (List Clause) → Type 0
NoneComes job rows = Each (NeverComes job) rows

-- no schedule has all answers of the row, if it is looked at and asks for no step that never ends
abbrev pub IsRuledOut : JobView → List Clause → Type 0
IsRuledOut job row = is_looked_at job row ≡ true → (goals : Goals) → AreOfClauses job row goals → is_some_open goals.left.items ≡ false → ¬ IsPossible job goals

-- none has those of one of these rows
abbrev pub AreRuledOut : JobView → List (List Clause) → Type 0
AreRuledOut job rows = Each (IsRuledOut job) rows

-- whether the row comes isn't known: more states than the limit would be looked at for it
abbrev pub IsUnknown : Bool → ℕ → JobView → List Clause → Type 0
IsUnknown is_brief limit job row = (goals : Goals) × AreOfRow job row goals × IsTold job goals is_brief limit (told.Many limit)

-- none of these rows is found to come: it never does, or that isn't known
abbrev pub NoneIsFound : Bool → ℕ → JobView → List (List Clause) → Type 0
NoneIsFound is_brief limit job rows = Each (λ row. NeverComes job row ⊎ IsUnknown is_brief limit job row) rows

-- no schedule has an answer that its step doesn't expect, nor all answers of a row of `never`
pub record IsWanted (asked : Asked) : Type 0 where
  pub meets : MeetsExpected asked.job
  pub none : NoneComes asked.job asked.rows

-- a job asks for something: answers of its steps, or by rows of `never`
abbrev pub asks : Asked → Bool
asks asked = not (length asked.job.expected == 0 && length asked.rows == 0)

-- the step as the file numbers it, by its number in the job at a place
abbrev pub filed : Option Place → Unmet → Unmet
filed None unmet = unmet
filed (Some place) unmet = record unmet { step = filed_number place unmet.rank unmet.step }

-- What the list comes to, the status, and what is told where some schedule has one, by a list of all outcomes. With 9 the first step that has an answer which it
-- doesn't expect, and a schedule that shows it, or that more states than the limit would be looked at for it. Where there is no such step,
-- with 9 the first row of `never` that is found to come together, with a schedule; or where none is, with 7 the first that can't be looked for
-- within the limit. At a place steps are numbered as in the file, and in the schedule as in the job with its stops.
pub data IsToldOf (form : Form) (options : ListOptions) (at : Option Place) (asked : Asked) (found : List (List ℕ)) : Judgement → ℕ → List ℕ → Type 0 where
  unmet : (one : Unmet) (goals : Goals) (what : Told) → first_unmet asked.job found ≡ Some one → IsUnmet asked.job one goals → IsTold asked.job goals options.is_brief options.limit what
      → IsToldOf form options at asked found (unmet_judgement one) 9 (unmet_in form at asked.names asked.job (filed at one) what)
  together : (number : ℕ) (row : List Clause) (goals : Goals) (schedule : Schedule) → MeetsExpected asked.job → slice_get asked.rows number ≡ Some row → NoneIsFound options.is_brief options.limit asked.job (take number asked.rows) → AreOfRow asked.job row goals
      → IsTold asked.job goals options.is_brief options.limit (told.Schedule schedule) → IsToldOf form options at asked found ComeTogether 9 (row_in form at asked.names asked.job number (told.Schedule schedule))
  unsearched : (number : ℕ) (row : List Clause) (goals : Goals) → MeetsExpected asked.job → slice_get asked.rows number ≡ Some row → NoneComes asked.job (take number asked.rows) → NoneIsFound options.is_brief options.limit asked.job asked.rows
      → AreOfRow asked.job row goals → IsTold asked.job goals options.is_brief options.limit (told.Many options.limit) → IsToldOf form options at asked found NotKnown 7 (row_in form at asked.names asked.job number (told.Many options.limit))
