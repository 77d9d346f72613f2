-- The steps whose lines a list has, and the list of those.
use Rattle.std.specs.Prelude.{ℕ, ◌==◌, ◌&&◌, ◌||◌, not, Bool, true, false, List, [], ◌∷◌, ◌++◌, Option, Some, None, codes, filter, is_some, if◌then◌else◌}
use Rattle.std.specs.Fmt.{decimal}
use Rattle.std.specs.List.{find, flat_map, list_any, slice_split}
use Rattle.std.specs.Str.{bytes_eq, trim}
use Rattle.ulfm_outcomes_list.specs.Listed.{StepView, all_steps, list_found}
use Rattle.ulfm_outcomes_list.specs.ListJson.{printed}
use Rattle.ulfm_outcomes_list.specs.declared.judgement.Judgement.{Judgement}
use Rattle.ulfm_job.specs.Text.{place_of_text}
use Rattle.ulfm_job.specs.declared.step.Step.{Step}
use Rattle.ulfm_job.specs.declared.step.Step.TheVariants.{Note}
use Rattle.ulfm_forms.specs.declared.form.Form.{Form}
use Rattle.ulfm_outcomes_list.specs.List.{list_at}
use Rattle.ulfm_outcomes_list.specs.declared.place_list.Listed.{Listed}
use Rattle.ulfm_reach.specs.declared.reached.Reached.{Reached}
use Rattle.ulfm_reader.specs.Reacting.{name_at}
use Rattle.ulfm_reader.specs.declared.name.Name.{Name}
use Rattle.ulfm_command_line.specs.Stopped.{Asked}
use Rattle.ulfm_command_line.specs.Wish.{ChoiceView}

-- the parts of a text between commas, if there is one
abbrev pub parts_of : Option (List ℕ) → List (List ℕ)
parts_of None = []
parts_of (Some text) = slice_split (λ b. b == 44) text

-- a text, where it is no place by the number of a step: digits alone are a number
abbrev pub unnumbered : List ℕ → List (List ℕ)
unnumbered text = if is_some (place_of_text text) then [] else text ∷ []

-- the texts that a name makes, if there is one: it, alone and behind its rank
abbrev pub named_labels : ℕ → Option (List ℕ) → List (List ℕ)
named_labels rank None = []
named_labels rank (Some name) = name ∷ unnumbered (decimal rank ++ codes "." ++ name)

-- the texts that name a step: its rank and its number, and those of its name
abbrev pub labels : List Name → StepView → List (List ℕ)
labels names s = (decimal s.rank ++ codes "." ++ decimal s.number) ∷ named_labels s.rank (name_at names s.rank s.number)

-- a part is this text, but for white space around it
abbrev pub is_part : List ℕ → List ℕ → Bool
is_part part text = bytes_eq (trim part) text

-- it is one of these texts
abbrev pub is_called : List (List ℕ) → List ℕ → Bool
is_called texts part = list_any (is_part part) texts

-- one of the parts is
abbrev pub are_called : List (List ℕ) → List (List ℕ) → Bool
are_called parts texts = list_any (is_called texts) parts

-- all lines are asked for
abbrev pub is_all : ChoiceView → Bool
is_all choice = not (is_some choice.only) && not choice.has_notes

-- a step is a note
abbrev pub is_note : Step → Bool
is_note (Note text) = true
is_note _ = false

-- the line of a step is asked for, where the text that names steps has these parts: all are, or notes are and it is one, or it is named
abbrev pub is_chosen : ChoiceView → List (List ℕ) → List Name → StepView → Bool
is_chosen choice parts names s = is_all choice || (choice.has_notes && is_note s.step.step) || are_called parts (labels names s)

-- the steps whose lines are asked for
abbrev pub chosen : ChoiceView → Asked → List StepView
chosen choice asked = filter (is_chosen choice (parts_of choice.only) asked.names) (all_steps asked.job)

-- the first part that names no step
abbrev pub unknown_part : ChoiceView → Asked → Option (List ℕ)
unknown_part choice asked = find (λ part. not (is_called (flat_map (labels asked.names) (all_steps asked.job)) part)) (parts_of choice.only)

-- the list of an exploration of a job, which comes to this, in this form
abbrev pub list_in : Form → ChoiceView → Asked → Judgement → Reached → List ℕ
list_in form choice asked judgement reached = printed form asked.names (list_found (chosen choice asked) judgement reached)

-- the lists of places, which come to this, in this form
abbrev pub lists_in : Form → ChoiceView → Asked → Judgement → List Listed → List ℕ
lists_in form choice asked judgement listed = printed form asked.names (list_at asked.job (chosen choice asked) judgement listed)
