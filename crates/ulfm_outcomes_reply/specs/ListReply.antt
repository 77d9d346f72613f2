-- What `outcomes` writes, with `--show` and `--stops` or without.
use Rattle.std.specs.Prelude.{ℕ, List, Option, Some, None}
use Rattle.ulfm_forms.specs.declared.form.Form.{Form}
use Rattle.ulfm_command_line.specs.Wish.{ChoiceView}
use Rattle.ulfm_command_line.specs.declared.command.ListOptions.{ListOptions}
use Rattle.ulfm_outcomes_reply.specs.EachPlace.{IsEachPlaceReply}
use Rattle.ulfm_outcomes_reply.specs.Outcomes.{IsOutcomesReply, IsShowReply}
use Rattle.ulfm_outcomes_reply.specs.ShowEach.{IsShowEachReply}

-- the reply by so many stops, where they are given
abbrev pub IsReplyBy : Form → Option (List ℕ) → Option ℕ → ChoiceView → ListOptions → List ℕ → ℕ → List ℕ → Type 0
IsReplyBy form None None choice options bytes status text = IsOutcomesReply form choice options bytes status text
IsReplyBy form None (Some stops) choice options bytes status text = IsEachPlaceReply form choice options stops bytes status text
IsReplyBy form (Some show) None choice options bytes status text = IsShowReply form options show bytes status text
IsReplyBy form (Some show) (Some stops) choice options bytes status text = IsShowEachReply form options stops show bytes status text

-- the reply of `outcomes`
abbrev pub IsListReply : Form → Option (List ℕ) → ChoiceView → ListOptions → List ℕ → ℕ → List ℕ → Type 0
IsListReply form show choice options bytes status text = IsReplyBy form show options.stops choice options bytes status text
