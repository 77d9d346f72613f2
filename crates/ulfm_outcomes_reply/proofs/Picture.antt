-- The picture of a step that never ends.
use Rattle.std.proofs.Common.{◌≡◌, ◌&&◌, ◌<◌, ◌+◌, ℕ, nat_lt, Bool, true, false, List, [], ◌∷◌, Option, Some, None, ap, cond, drop, get_or, is_some, length, map, refl, sym, subst, take, ◌∙◌}
use Rattle.std.proofs.lemmas.Bool.{and_parts, false≢true}
use Rattle.std.proofs.lemmas.List.Elements.{All-more}
use Rattle.std.proofs.lemmas.Option.{none-some, slice_get-get_or}
use Rattle.std.specs.Prelude.{All}
use Rattle.std.specs.Option.{option_or}
use Rattle.ulfm_outcomes_spec.proofs.Judging.{left_judged}
use Rattle.ulfm_outcomes_spec.specs.Told.{IsTold}
use Rattle.ulfm_outcomes_spec.specs.Unmet.{Judges}
use Rattle.ulfm_outcomes_list.specs.Listed.{StepView, all_steps, step_view}
use Rattle.ulfm_outcomes_list.specs.declared.job_step.JobStep.{JobStep}
use Rattle.ulfm_outcomes_list.specs.Text.{never_ends}
use Rattle.ulfm_outcomes_list.specs.Unmet.{IsUnmet}
use Rattle.ulfm_outcomes_list.specs.declared.goals.Goals.{Goals}
use Rattle.ulfm_outcomes_list.specs.declared.unmet.Unmet.{Unmet}
use Rattle.ulfm_job.specs.Job.{JobView}
use Rattle.ulfm_forms.specs.declared.form.Form.{Form}
use Rattle.ulfm_forms.specs.declared.style.Style.{Style}
use Rattle.ulfm_outcomes_list.proofs.Telling.{drop-item}
use Rattle.ulfm_outcomes_list.specs.Told.{told_in}
use Rattle.ulfm_outcomes_list.specs.declared.place_list.Listed.{Listed}
use Rattle.ulfm_outcomes_list.specs.declared.search_result.Told.{Told}
use Rattle.ulfm_outcomes_list.specs.declared.search_result.Told.TheVariants as told
use Rattle.ulfm_command_line.specs.Stopped.{Asked, asked_at}
use Rattle.ulfm_command_line.specs.declared.reply.Reply.{Reply}
use Rattle.ulfm_outcomes_reply.specs.EachPlace.{IsUndrawn}
use Rattle.ulfm_outcomes_reply.specs.inside.Judging.{IsDrawnThere, IsFirstDrawn}
use Rattle.ulfm_command_line.specs.declared.command.ListOptions.{ListOptions}
use Rattle.ulfm_job.specs.declared.place.Place.{Place}
use Rattle.ulfm_outcomes_reply.specs.Drawn.{IsDrawn, first_left, left_drawn, left_of, no_picture, picture}
use Rattle.ulfm_outcomes_reply.specs.Wanted.{HasList}
use Rattle.ulfm_outcomes_reply.specs.inside.Looking.{IsLookText, look_status}

-- what is written of a schedule that was found, or of too many states
pub drawn_as : (form : Form) (options : ListOptions) (at : Option Place) (asked : Asked) (left : Unmet) (goals : Goals) (what : Told) (text : List ℕ) → IsUnmet asked.job left goals
    → IsTold asked.job goals options.is_brief options.limit what → IsLookText form options.drawn at asked (Some what) text → IsDrawn form options at asked left (look_status (Some what)) text
drawn_as form options at asked left goals (told.Schedule schedule) text are shows is = picture goals schedule text are shows is
drawn_as form options at asked left goals (told.Many limit) text are many is =
    subst (λ (t : List ℕ). IsDrawn form options at asked left 7 t) (sym is)
    (subst (λ (n : ℕ). IsDrawn form options at asked left 7 (told_in form at asked.names asked.job (told.Many n))) (sym many.0) (no_picture goals are (sym many.0 ∙ many.0, many.1)))

module _ (found : List (List ℕ)) (steps : List JobStep) (i : ℕ) (at : JobStep) (inside : i < length steps) (is : at ≡ get_or steps i at) (whole : Option Unmet)
    (so_far : first_left found (map step_view (drop i steps)) ≡ whole) where
  -- the rest of the steps from a place: the step there, and those behind it
  by_place : option_or (left_of found (step_view at)) (first_left found (map step_view (drop (i + 1) steps))) ≡ whole
  by_place = sym (ap (λ (rest : List JobStep). first_left found (map step_view rest)) (drop-item steps i at inside is)) ∙ so_far

  -- the step there never ends
  pub left_here : is_some (left_of found (step_view at)) ≡ true → left_of found (step_view at) ≡ whole
  left_here some = by (left_of found (step_view at)) some by_place
    where
      by : (o : Option Unmet) → is_some o ≡ true → option_or o (first_left found (map step_view (drop (i + 1) steps))) ≡ whole → o ≡ whole
      by None none same = absurd (false≢true none)
      by (Some left) some same = same

  -- it doesn't
  pub left_on : is_some (left_of found (step_view at)) ≡ false → first_left found (map step_view (drop (i + 1) steps)) ≡ whole
  left_on none = by (left_of found (step_view at)) none by_place
    where
      by : (o : Option Unmet) → is_some o ≡ false → option_or o (first_left found (map step_view (drop (i + 1) steps))) ≡ whole → first_left found (map step_view (drop (i + 1) steps)) ≡ whole
      by None none same = same
      by (Some left) some same = absurd (false≢true (sym some))

module _ (form : Form) (options : ListOptions) (asked : Asked) (listed : List Listed) (i : ℕ) (one : Listed) (inside : i < length listed) (is : one ≡ get_or listed i one) where
  -- a picture at a place is the first, where there is none before
  pub drawn-first : (drawn : Option Reply) → All (IsUndrawn options asked) (take i listed) → IsDrawnThere form options one (asked_at one.place asked) drawn → is_some drawn ≡ true → IsFirstDrawn form options asked listed drawn
  drawn-first None before here some = absurd (false≢true some)
  drawn-first (Some reply) before here some =
      record { number = i; one = one; left = here.0; there = slice_get-get_or listed i one inside ∙ ap Some (sym is); before = before; first = here.1; drawn = here.2 }

  -- without one there is none up to the next
  pub drawn-next : (drawn : Option Reply) → All (IsUndrawn options asked) (take i listed) → IsDrawnThere form options one (asked_at one.place asked) drawn → is_some drawn ≡ false → All (IsUndrawn options asked) (take (i + 1) listed)
  drawn-next None before here none = All-more (IsUndrawn options asked) listed i one inside before (subst (IsUndrawn options asked) is here)
  drawn-next (Some reply) before here some = absurd (false≢true (sym some))

module _ (job : JobView) (limit : ℕ) (found : List (List ℕ)) (list : HasList job limit found) where
  -- a step that is left open for ever may be shown so
  here : (s : StepView) (left : Unmet) → left_of found s ≡ Some left → Judges job (Some left)
  here s left = by (nat_lt s.number 65536 && never_ends found s.rank s.number) refl
    where
      by : (b : Bool) → (nat_lt s.number 65536 && never_ends found s.rank s.number) ≡ b → cond b (Some (record { rank = s.rank; step = s.number; is_open = true })) None ≡ Some left → Judges job (Some left)
      by true is same = subst (Judges job) same (left_judged _ job limit list.0 found list.1 s.rank s.number (and_parts (nat_lt s.number 65536) (never_ends found s.rank s.number) is).1)
      by false is same = absurd (none-some left same)

  first : (steps : List StepView) (left : Unmet) → first_left found steps ≡ Some left → Judges job (Some left)
  first [] left same = absurd (none-some left same)
  first (s ∷ steps) left same = by (λ rest. first steps left rest) (left_of found s) refl same
    where
      by : (first_left found steps ≡ Some left → Judges job (Some left)) → (o : Option Unmet) → left_of found s ≡ o → option_or o (first_left found steps) ≡ Some left → Judges job (Some left)
      by later None is same = later same
      by later (Some one) is same = here s left (is ∙ same)

-- and so may the one that is drawn
pub left_possible : (drawn : Option Style) (job : JobView) (limit : ℕ) (found : List (List ℕ)) (left : Unmet) → HasList job limit found → left_drawn drawn job found ≡ Some left → Judges job (Some left)
left_possible None job limit found left list same = absurd (none-some left same)
left_possible (Some style) job limit found left list same = first job limit found list (all_steps job) left same
