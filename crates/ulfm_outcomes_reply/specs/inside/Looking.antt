-- What single functions find that look for schedules.
use Rattle.std.specs.Prelude.{◌≡◌, ◌==◌, ℕ, Bool, false, true, All as Each, Contains, List, Option, Some, None, slice_get, take}
use Rattle.ulfm_job.specs.declared.clause.Clause.{Clause}
use Rattle.ulfm_job.specs.Job.{JobView}
use Rattle.ulfm_outcomes_spec.specs.Goals.{is_some_open}
use Rattle.ulfm_outcomes_spec.specs.Told.{IsLook, IsTold}
use Rattle.ulfm_outcomes_list.specs.Goals.{AreOfClauses}
use Rattle.ulfm_outcomes_list.specs.declared.goals.Goals.{Goals}
use Rattle.ulfm_outcomes_list.specs.declared.unmet.Unmet.{Unmet}
use Rattle.ulfm_outcomes_list.specs.declared.judgement.Judgement.{Judgement}
use Rattle.ulfm_outcomes_list.specs.declared.judgement.Judgement.TheVariants.{ComeTogether, NotKnown}
use Rattle.ulfm_forms.specs.declared.style.Style.{Style}
use Rattle.ulfm_forms.specs.declared.form.Form.{Form}
use Rattle.ulfm_outcomes_list.specs.Told.{told_in}
use Rattle.ulfm_outcomes_list.specs.declared.search_result.Told.{Told}
use Rattle.ulfm_outcomes_list.specs.declared.search_result.Told.TheVariants.{Schedule, Many}
use Rattle.ulfm_command_line.specs.Asking.{is_looked_at}
use Rattle.ulfm_command_line.specs.Stopped.{Asked}
use Rattle.ulfm_command_line.specs.declared.command.ListOptions.{ListOptions}
use Rattle.ulfm_command_line.specs.Body.{body_in}
use Rattle.ulfm_command_line.specs.declared.reply.Reply.{Reply}
use Rattle.ulfm_job.specs.declared.place.Place.{Place}
use Rattle.ulfm_outcomes_reply.specs.Drawn.{IsDrawn, left_drawn}
use Rattle.ulfm_outcomes_reply.specs.Outcomes.{nowhere_in}
use Rattle.ulfm_outcomes_reply.specs.Wanted.{AreOfRow, IsUnknown, NeverComes, NoneComes, NoneIsFound}
use Rattle.ulfm_outcomes_reply.specs.declared.never_rows.FirstRow.{FirstRow}

-- what came of a search for the answers of a row: none for one that isn't looked at
abbrev pub IsLookForRow : JobView → List Clause → Bool → ℕ → Option Told → Type 0
IsLookForRow job row is_brief limit None = NeverComes job row
IsLookForRow job row is_brief limit (Some told) = (goals : Goals) × AreOfRow job row goals × IsLook job goals is_brief limit (Some told)

-- what the answers of the row ask for is among these goals, if it is looked at and asks for no step that never ends
abbrev pub IsAmong : JobView → List Clause → List Goals → Type 0
IsAmong job row sought = is_looked_at job row ≡ true → (goals : Goals) × AreOfClauses job row goals × (is_some_open goals.left.items ≡ false → Contains sought goals)

-- so it is with each of these rows
abbrev pub AreAmong : JobView → List (List Clause) → List Goals → Type 0
AreAmong job rows sought = Each (λ (row : List Clause). IsAmong job row sought) rows

-- what the answers of the row ask for, or none: it isn't looked at, or asks for a step that never ends
abbrev pub IsClosedRow : JobView → List Clause → Option Goals → Type 0
IsClosedRow job row None = is_looked_at job row ≡ true → (goals : Goals) × AreOfClauses job row goals × (is_some_open goals.left.items ≡ true)
IsClosedRow job row (Some goals) = AreOfClauses job row goals

-- what came of a look at a row: nothing to be looked for, or these goals
abbrev pub IsSoughtRow : JobView → List Clause → Option Goals → Type 0
IsSoughtRow job row None = NeverComes job row
IsSoughtRow job row (Some goals) = AreOfRow job row goals

-- what a list comes to below which this is told of a row
abbrev pub row_judgement : Told → Judgement
row_judgement (Schedule schedule) = ComeTogether
row_judgement (Many limit) = NotKnown

-- the status of a list below which this is told of a row
abbrev pub row_status : Told → ℕ
row_status (Schedule schedule) = 9
row_status (Many limit) = 7

-- what came of a search for the row of this number
abbrev pub numbered : ℕ → Option Told → Option FirstRow
numbered number None = None
numbered number (Some told) = Some (record { number = number; told = told })

-- a schedule was found that has all answers of a row, by what is told of it
abbrev pub is_row_found : Option FirstRow → Bool
is_row_found None = false
is_row_found (Some first) = row_status first.told == 9

-- that is told of the row of this number: a schedule, and none is found before it; or it is the first of which it isn't known, and none is found
abbrev pub IsFirstTold : JobView → List (List Clause) → Bool → ℕ → ℕ → Told → Type 0
IsFirstTold job rows is_brief limit number (Schedule schedule) = (row : List Clause) × (slice_get rows number ≡ Some row) × NoneIsFound is_brief limit job (take number rows)
    × ((goals : Goals) × AreOfRow job row goals × IsTold job goals is_brief limit (Schedule schedule))
IsFirstTold job rows is_brief limit number (Many most) = (row : List Clause) × (slice_get rows number ≡ Some row) × NoneComes job (take number rows) × NoneIsFound is_brief limit job rows
    × (most ≡ limit) × IsUnknown is_brief limit job row

-- no row comes together, or that is told of one
abbrev pub IsFirstRow : JobView → List (List Clause) → Bool → ℕ → Option FirstRow → Type 0
IsFirstRow job rows is_brief limit None = NoneComes job rows
IsFirstRow job rows is_brief limit (Some first) = IsFirstTold job rows is_brief limit first.number first.told

-- of so many of the rows none comes together, or none is found, and that is the first of which it isn't known
abbrev pub IsUnfoundOf : JobView → List (List Clause) → Bool → ℕ → ℕ → Option FirstRow → Type 0
IsUnfoundOf job rows is_brief limit count None = NoneComes job (take count rows)
IsUnfoundOf job rows is_brief limit count (Some first) = (row : List Clause) × (slice_get rows first.number ≡ Some row) × NoneComes job (take first.number rows) × NoneIsFound is_brief limit job (take count rows)
    × (first.told ≡ Many limit) × IsUnknown is_brief limit job row

-- the status of what came of a search for answers that the words name, or that no schedule shows them
abbrev pub look_status : Option Told → ℕ
look_status None = 8
look_status (Some (Schedule schedule)) = 0
look_status (Some (Many limit)) = 7

-- the text of what came of a search, perhaps at a place: that, where it is no schedule that is to be drawn
abbrev pub IsLookText : Form → Option Style → Option Place → Asked → Option Told → List ℕ → Type 0
IsLookText form drawn at asked None text = text ≡ nowhere_in form
IsLookText form drawn at asked (Some (Schedule schedule)) text = drawn ≡ None → text ≡ told_in form at asked.names asked.job (Schedule schedule)
IsLookText form drawn at asked (Some (Many limit)) text = text ≡ told_in form at asked.names asked.job (Many limit)

-- a picture of the first step that never ends, by the rows of a list, where one is asked for and a step never ends
abbrev pub IsDrawnOf : Form → ListOptions → Option Place → Asked → List (List ℕ) → Option Reply → Type 0
IsDrawnOf form options at asked found None = left_drawn options.drawn asked.job found ≡ None
IsDrawnOf form options at asked found (Some reply) = (left : Unmet) × (left_drawn options.drawn asked.job found ≡ Some left) × IsDrawn form options at asked left reply.status (body_in form reply.body)
