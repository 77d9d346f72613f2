-- A player whose answers are right so far.
use Rattle.std.specs.Prelude.{◌≡◌, ℕ, Bool, true, false, List, [], ◌++◌, ◌<◌, ◌≤◌, length, All, Option, Some, None}
use Rattle.ulfm_base.specs.declared.topic.Topic.{Topic}
use Rattle.ulfm_base.specs.declared.context.Context.{Context}
use Rattle.ulfm_base.specs.declared.decision.Decision.{Decision}
use Rattle.ulfm_board.specs.Known.{known_at}
use Rattle.ulfm_log.specs.declared.entry.Entry.{Entry}
use Rattle.ulfm_log.specs.Facts.{is_stopped}
use Rattle.ulfm_log.specs.State.{State}
use Rattle.ulfm_answer.specs.declared.answer.StepAnswer.TheVariants.{Unfinished}
use Rattle.ulfm_answer.specs.declared.answer.StepReport.{StepReport}
use Rattle.ulfm_job.specs.declared.step.Step.{Step}
use Rattle.ulfm_script.specs.Deciding.{Known, IsReadyToDecide}
use Rattle.ulfm_script.specs.Player.{Player, is_joint, step_report}
use Rattle.ulfm_script.specs.Answered.{IsTook, OnlyTook, EntersBetween, AnswerFollows, EachAnswerFollows, EndsAtStop}

-- from one place of its log to its end the rank took items, and entered a topic where ranks decide the step together
abbrev pub EntersSince : Bool → State → Step → ℕ → Type 0
EntersSince true rank asked from = (topic : Topic) × EntersBetween rank asked topic from (length rank.log)
EntersSince false rank asked from = OnlyTook rank.log from (length rank.log)

-- what the log of a rank has since its last answered step, while this step stands open
abbrev pub Since : State → ℕ → Step → Type 0
Since rank from asked = EntersSince (is_joint asked) rank asked from

-- A step stands open: its last poll left it so, and the rank only took since then.
pub record StandsOpen (known : Known) (rank : State) (before : List StepReport) (from : ℕ) (asked : Step)
    (at polls : ℕ) : Type 0 where
  pub polled : 0 < polls
  pub since : Since rank from asked
  pub next : ℕ
  pub left : AnswerFollows known rank before from (step_report asked Unfinished at polls) next
  pub took : OnlyTook rank.log next (length rank.log)

-- no step stands open, and the rank only took since the last one, or its last poll left it open
abbrev pub Stands : Known → State → List StepReport → ℕ → Option Step → ℕ → ℕ → Type 0
Stands known rank before from None at polls = OnlyTook rank.log from (length rank.log)
Stands known rank before from (Some asked) at polls = StandsOpen known rank before from asked at polls

-- each answer is its step's answer on the log's beginning up to its place, so far
pub record AnswersFollowSoFar (known : Known) (p : Player) : Type 0 where
  pub place : ℕ
  pub answers : EachAnswerFollows known p.rank [] 0 p.done place
  pub stands : Stands known p.rank p.done place p.current p.at p.polls
  pub stop : is_stopped p.rank.log ≡ true → EndsAtStop p.rank.log

-- no open step that ranks decide together has a proposal
abbrev pub IsUndecided : Player → Type 0
IsUndecided p = (comm : Context) → IsReadyToDecide p comm → ⊥

-- what is known stays known, and on topics that steps of the rank entered and left up to this place nothing more becomes known
pub record Learns (rank : State) (to : ℕ) (old new : Known) : Type 0 where
  pub keeps : (topic : Topic) (d : Decision) → known_at old topic ≡ Some d → known_at new topic ≡ Some d
  pub same : (asked : Step) (topic : Topic) (from at : ℕ) → EntersBetween rank asked topic from at → at ≤ to
      → known_at new topic ≡ known_at old topic

-- the log has more entries, all taken, and none after a stop
pub record OnlyTakes (old new : List Entry) : Type 0 where
  pub more : List Entry
  pub only : new ≡ old ++ more
  pub took : All IsTook more
  pub stopped : is_stopped old ≡ true → more ≡ []
