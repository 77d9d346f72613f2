-- What letters carry: those that a rank's steps sent, and those that came to a rank.
use Rattle.std.specs.Prelude.{ℕ, ◌==◌, ◌&&◌, Bool, false, List, [], ◌∷◌, Option, Some, None, slice_get, if◌then◌else◌}
use Rattle.std.specs.List.{flat_map}
use Rattle.ulfm_base.specs.declared.tag.Tag.{Tag}
use Rattle.ulfm_match.specs.History.{MatchEvent, History, Come}
use Rattle.ulfm_rank.specs.Checks.{group_at}
use Rattle.ulfm_log.specs.State.{State}
use Rattle.ulfm_job.specs.declared.step.Step.{Step}
use Rattle.ulfm_job.specs.declared.step.Step.TheVariants.{Send}
use Rattle.ulfm_answer.specs.declared.answer.StepAnswer.{StepAnswer}
use Rattle.ulfm_answer.specs.declared.answer.StepAnswer.TheVariants.{Sent}
use Rattle.ulfm_answer.specs.declared.answer.StepReport.{StepReport}

-- what a letter carries
pub record Content : Type 0 where
  pub tag : Tag
  pub body : List ℕ

-- the content with this tag and body
abbrev pub content : Tag → List ℕ → Content
content tag body = record { tag = tag; body = body }

-- the member found at a position is d
abbrev pub is_rank : ℕ → Option ℕ → Bool
is_rank d None = false
is_rank d (Some member) = member == d

-- what a step with this answer sent on the communicator c of this group to the rank d
abbrev pub sent_by : List ℕ → ℕ → ℕ → Step → StepAnswer → List Content
sent_by group c d (Send to tag body comm) Sent = if comm.number == c && is_rank d (slice_get group to) then content tag body ∷ [] else []
sent_by group c d _ _ = []

-- what a step of a report sent
abbrev pub sent_in : List ℕ → ℕ → ℕ → StepReport → List Content
sent_in group c d report = sent_by group c d report.step report.answer

-- what the answered steps of a rank sent on the communicator c to the rank d, in order
abbrev pub letters_sent : State → ℕ → ℕ → List StepReport → List Content
letters_sent rank c d steps = flat_map (sent_in (group_at rank c) c d) steps

-- the letter of the communicator c that came from the rank s
abbrev pub come_in : ℕ → ℕ → MatchEvent → List Content
come_in s c (Come letter) = if letter.envelope.context.number == c && letter.envelope.source.number == s then content letter.envelope.tag letter.body ∷ [] else []
come_in s c _ = []

-- the letters of the communicator c that came from the rank s, in order
abbrev pub letters_come : ℕ → ℕ → History → List Content
letters_come s c history = flat_map (come_in s c) history
