-- What `outcomes` writes for a job.
use Rattle.std.specs.Prelude.{◌≡◌, ℕ, Bool, List, ◌++◌, Some, None, Result, Ok, Err, codes, if◌then◌else◌}
use Rattle.std.specs.Str.{trim}
use Rattle.ulfm_job.specs.declared.clause.Clause.{Clause}
use Rattle.ulfm_reader.specs.Goals.{goals_of}
use Rattle.ulfm_reach.specs.declared.reach.Reach.TheVariants.{All, More}
use Rattle.ulfm_reach.specs.declared.reached.Reached.{Reached}
use Rattle.ulfm_outcomes_spec.specs.Goals.{IsPossible}
use Rattle.ulfm_outcomes_list.specs.Goals.{AreOfClauses}
use Rattle.ulfm_outcomes_spec.specs.Outcomes.{IsList}
use Rattle.ulfm_outcomes_spec.specs.Told.{IsTold}
use Rattle.ulfm_outcomes_list.specs.Text.{some_never_ends}
use Rattle.ulfm_outcomes_list.specs.declared.goals.Goals.{Goals}
use Rattle.ulfm_forms.specs.declared.form.Form.{Form}
use Rattle.ulfm_forms.specs.declared.form.Form.TheVariants.{Words, Json}
use Rattle.ulfm_outcomes_list.specs.ListJson.{more_in}
use Rattle.ulfm_outcomes_list.specs.declared.judgement.Judgement.{Judgement}
use Rattle.ulfm_outcomes_list.specs.Told.{told_in}
use Rattle.ulfm_outcomes_list.specs.declared.search_result.Told.TheVariants as told
use Rattle.ulfm_schedule.specs.declared.schedule.Schedule.{Schedule}
use Rattle.ulfm_command_line.specs.Failure.{out_of_memory_in}
use Rattle.ulfm_command_line.specs.Stopped.{Asked, IsAskedAt, IsRefusal, reading_as}
use Rattle.ulfm_command_line.specs.Unknown.{no_goal, no_name}
use Rattle.ulfm_command_line.specs.declared.command.ListOptions.{ListOptions}
use Rattle.ulfm_command_line.specs.Wish.{ChoiceView}
use Rattle.ulfm_outcomes_list.specs.declared.unmet.Unmet.{Unmet}
use Rattle.ulfm_outcomes_reply.specs.Drawn.{IsDrawn, left_drawn}
use Rattle.ulfm_outcomes_reply.specs.Hangs.{judgement_alone}
use Rattle.ulfm_outcomes_reply.specs.Chosen.{list_in, unknown_part}
use Rattle.ulfm_outcomes_reply.specs.Wanted.{IsToldOf, IsWanted}

-- what the words say that no schedule shows the answers, in this form
abbrev pub nowhere_in : Form → List ℕ
nowhere_in (Words wording) = codes "no schedule\n"
nowhere_in Json = codes "{\"schedule\":null}\n"

-- the status of a list that has nothing else to tell: with `--strict` 6 where some step never ends
abbrev pub list_status : Bool → Bool → ℕ
list_status is_strict is_open = if is_strict then (if is_open then 6 else 0) else 0

-- The status of a whole list, and the list with what it comes to and what is told below it. Where a picture is asked for and a step never ends,
-- that alone, of the first such step. Else with 0, or with 6 by `--strict`, nothing is, and no schedule has an
-- answer that its step doesn't expect, nor all answers of a row of `never`.
pub data IsJudged (form : Form) (choice : ChoiceView) (options : ListOptions) (asked : Asked) (reached : Reached) : ℕ → List ℕ → Type 0 where
  drawn : (left : Unmet) (status : ℕ) (text : List ℕ) → left_drawn options.drawn asked.job reached.found ≡ Some left → IsDrawn form options None asked left status text → IsJudged form choice options asked reached status text
  good : left_drawn options.drawn asked.job reached.found ≡ None → IsWanted asked → IsJudged form choice options asked reached (list_status options.is_strict (some_never_ends reached.found))
      (list_in form choice asked (judgement_alone options.is_strict asked reached.found) reached)
  unwanted : (judgement : Judgement) (status : ℕ) (text : List ℕ) → left_drawn options.drawn asked.job reached.found ≡ None → IsToldOf form options None asked reached.found judgement status text
      → IsJudged form choice options asked reached status (list_in form choice asked judgement reached ++ text)

-- The status and the text, in this form, that `outcomes` gives for these bytes: the list of all that the steps of their job may be
-- answered, over every schedule, and of those that may be left open for ever, with what is told below it; with 7 also the line alone that
-- more states than the limit are reached; with 1 that the job is refused, or hasn't the place of `--stop`, or no step of a name; with 3 the line
-- that memory ran out.
pub data IsOutcomesReply (form : Form) (choice : ChoiceView) (options : ListOptions) (bytes : List ℕ) : ℕ → List ℕ → Type 0 where
  listed : (asked : Asked) (reached : Reached) (status : ℕ) (text : List ℕ) → IsAskedAt options.place bytes asked → unknown_part choice asked ≡ None → IsList asked.job options.limit (All reached)
      → IsJudged form choice options asked reached status text → IsOutcomesReply form choice options bytes status text
  past_limit : (asked : Asked) → IsAskedAt options.place bytes asked → unknown_part choice asked ≡ None → IsList asked.job options.limit More
      → IsOutcomesReply form choice options bytes 7 (more_in form options.limit)
  misnamed : (asked : Asked) (part : List ℕ) → IsAskedAt options.place bytes asked → unknown_part choice asked ≡ Some part → IsOutcomesReply form choice options bytes 1 (no_name (trim part))
  not_listed : (status : ℕ) (text : List ℕ) → IsRefusal form options.place bytes status text → IsOutcomesReply form choice options bytes status text
  unlisted : IsOutcomesReply form choice options bytes 3 (out_of_memory_in form)

-- the answers that a text names, by what was read of a job
abbrev pub goals_asked : Asked → List ℕ → Result (List Clause) (List ℕ)
goals_asked asked show = goals_of (reading_as asked) show

-- The status and the text that `outcomes --show` gives: with 0 a schedule of the job with all answers that the text names, or a picture with
-- `--draw`, with 8 that no schedule has them, with 7 that there are more states than the limit; with 1 the first part of the text that names no
-- answer of the job, or that the job is refused.
pub data IsShowReply (form : Form) (options : ListOptions) (show bytes : List ℕ) : ℕ → List ℕ → Type 0 where
  shown : (asked : Asked) (answers : List Clause) → IsAskedAt options.place bytes asked → goals_asked asked show ≡ Ok answers → (goals : Goals) → AreOfClauses asked.job answers goals
      → (schedule : Schedule) (text : List ℕ) → IsTold asked.job goals options.is_brief options.limit (told.Schedule schedule)
      → (options.drawn ≡ None → text ≡ told_in form None asked.names asked.job (told.Schedule schedule)) → IsShowReply form options show bytes 0 text
  nowhere : (asked : Asked) (answers : List Clause) → IsAskedAt options.place bytes asked → goals_asked asked show ≡ Ok answers → (goals : Goals) → AreOfClauses asked.job answers goals
      → ¬ IsPossible asked.job goals → IsShowReply form options show bytes 8 (nowhere_in form)
  too_many : (asked : Asked) (answers : List Clause) → IsAskedAt options.place bytes asked → goals_asked asked show ≡ Ok answers → (goals : Goals) → AreOfClauses asked.job answers goals
      → IsTold asked.job goals options.is_brief options.limit (told.Many options.limit) → IsShowReply form options show bytes 7 (told_in form None asked.names asked.job (told.Many options.limit))
  unnamed : (asked : Asked) (text : List ℕ) → IsAskedAt options.place bytes asked → goals_asked asked show ≡ Err text → IsShowReply form options show bytes 1 (no_goal text)
  not_shown : (status : ℕ) (text : List ℕ) → IsRefusal form options.place bytes status text → IsShowReply form options show bytes status text
  unshown : IsShowReply form options show bytes 3 (out_of_memory_in form)
