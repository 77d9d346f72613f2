-- The picture of a step that never ends.
use Rattle.std.specs.Prelude.{◌≡◌, ℕ, nat_lt, ◌&&◌, true, List, [], ◌∷◌, Option, Some, None, if◌then◌else◌}
use Rattle.std.specs.Option.{option_or}
use Rattle.ulfm_outcomes_spec.specs.Told.{IsTold}
use Rattle.ulfm_outcomes_list.specs.Listed.{StepView, all_steps}
use Rattle.ulfm_outcomes_list.specs.Text.{never_ends}
use Rattle.ulfm_outcomes_list.specs.Unmet.{IsUnmet}
use Rattle.ulfm_outcomes_list.specs.declared.goals.Goals.{Goals}
use Rattle.ulfm_outcomes_list.specs.declared.unmet.Unmet.{Unmet}
use Rattle.ulfm_job.specs.Job.{JobView}
use Rattle.ulfm_forms.specs.declared.form.Form.{Form}
use Rattle.ulfm_forms.specs.declared.style.Style.{Style}
use Rattle.ulfm_outcomes_list.specs.Told.{told_in}
use Rattle.ulfm_outcomes_list.specs.declared.search_result.Told.TheVariants as told
use Rattle.ulfm_schedule.specs.declared.schedule.Schedule.{Schedule}
use Rattle.ulfm_command_line.specs.Stopped.{Asked}
use Rattle.ulfm_command_line.specs.declared.command.ListOptions.{ListOptions}
use Rattle.ulfm_job.specs.declared.place.Place.{Place}

-- a step that never ends, by the rows of a list, if it doesn't: no job has 65,536
abbrev pub left_of : List (List ℕ) → StepView → Option Unmet
left_of found s = if nat_lt s.number 65536 && never_ends found s.rank s.number then Some (record { rank = s.rank; step = s.number; is_open = true }) else None

-- the first of these steps that never ends
abbrev pub first_left : List (List ℕ) → List StepView → Option Unmet
first_left found [] = None
first_left found (s ∷ steps) = option_or (left_of found s) (first_left found steps)

-- that of a job, where a picture is asked for
abbrev pub left_drawn : Option Style → JobView → List (List ℕ) → Option Unmet
left_drawn None job found = None
left_drawn (Some style) job found = first_left found (all_steps job)

-- The status, and what is written of a step that never ends: with 0 a picture of a schedule in which it never ends, with 7 that there are more
-- states than the limit.
pub data IsDrawn (form : Form) (options : ListOptions) (at : Option Place) (asked : Asked) (left : Unmet) : ℕ → List ℕ → Type 0 where
  picture : (goals : Goals) (schedule : Schedule) (text : List ℕ) → IsUnmet asked.job left goals → IsTold asked.job goals options.is_brief options.limit (told.Schedule schedule)
      → (options.drawn ≡ None → text ≡ told_in form at asked.names asked.job (told.Schedule schedule)) → IsDrawn form options at asked left 0 text
  no_picture : (goals : Goals) → IsUnmet asked.job left goals → IsTold asked.job goals options.is_brief options.limit (told.Many options.limit)
      → IsDrawn form options at asked left 7 (told_in form at asked.names asked.job (told.Many options.limit))
