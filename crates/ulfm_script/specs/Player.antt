-- What contracts see of a rank that goes through its steps, and what a poll of a step does.
use Rattle.std.specs.Prelude.{◌≡◌, ℕ, Bool, true, false, is_some, List, [], ◌∷◌, ◌++◌, ◌+◌, ◌-◌, ◌^◌, ◌⊎◌, min, length, Option, Some, None}
use Rattle.ulfm_log.specs.State.{State, start_state}
use Rattle.ulfm_job.specs.declared.step.Step.{Step}
use Rattle.ulfm_job.specs.Job.{decides_on}
use Rattle.ulfm_answer.specs.declared.answer.StepAnswer.{StepAnswer}
use Rattle.ulfm_answer.specs.declared.answer.StepAnswer.TheVariants.{Unfinished, Skipped}
use Rattle.ulfm_answer.specs.declared.answer.StepReport.{StepReport}
use Rattle.ulfm_script.specs.declared.called.Called.{Called}
use Rattle.ulfm_script.specs.declared.called.Called.TheVariants.{Answered, NotYet}
use Rattle.ulfm_script.specs.Calls.{AnswersStep, LeavesOpen}

-- A rank, its answered steps, and the step that stands open with the log's length when its last poll began and the
-- polls that left it open.
pub record Player : Type 0 where
  pub rank : State
  pub done : List StepReport
  pub current : Option Step
  pub at : ℕ
  pub polls : ℕ

-- a player, its places for further answers, whether its rank is prepared for one `take` or one poll, and of which outboxes
-- the item that went out last keeps its place
pub record PlayerView : Type 0 where
  pub player : Player
  pub room : ℕ
  pub prepared : Bool
  pub lent : List Bool

-- the player of a rank that starts
abbrev pub start_player : ℕ → ℕ → Player
start_player me n = record { rank = start_state me n; done = []; current = None; at = 0; polls = 0 }

-- the player with another state of its rank
abbrev pub with_rank : Player → State → Player
with_rank p r = record { rank = r; done = p.done; current = p.current; at = p.at; polls = p.polls }

-- a step's answer, with the log's length when its last poll began and the polls that left it open
abbrev pub step_report : Step → StepAnswer → ℕ → ℕ → StepReport
step_report step answer at polls = record { step = step; answer = answer; at = at; polls = polls }

-- the step has its answer, which its last poll, begun at this length of the log, gave
abbrev pub answered : Player → Step → StepAnswer → ℕ → Player
answered p step answer at = record { rank = p.rank; done = p.done ++ step_report step answer at p.polls ∷ []; current = None; at = 0; polls = 0 }

-- one more poll, begun at this length of the log, left the step open
abbrev pub polled : Player → Step → ℕ → Player
polled p step at = record { rank = p.rank; done = p.done; current = Some step; at = at; polls = min (p.polls + 1) (2 ^ 32 - 1) }

-- no other step stands open
abbrev pub IsFree : Player → Step → Type 0
IsFree p step = (p.current ≡ None) ⊎ (p.current ≡ Some step)

-- ranks decide a step together: a shrink or an agreement
abbrev pub is_joint : Step → Bool
is_joint asked = is_some (decides_on asked)

-- a shrink or an agreement that was entered stands open
abbrev pub awaits_decision : Option Step → Bool
awaits_decision None = false
awaits_decision (Some asked) = is_joint asked

-- a further poll of a shrink or an agreement changes nothing
abbrev pub StaysOpen : Bool → List StepReport → State → Step → State → Type 0
StaysOpen true before r asked new = new ≡ r
StaysOpen false before r asked new = LeavesOpen before r asked new

-- a poll of the step answered it
pub record PollAnswers (old : Player) (step : Step) (new : Player) : Type 0 where
  pub first : awaits_decision old.current ≡ false
  pub answer : StepAnswer
  pub rank : State
  pub answers : AnswersStep old.done old.rank step answer rank
  pub only : new ≡ answered (with_rank old rank) step answer (length old.rank.log)

-- a poll of the step left it open
pub record PollOpens (old : Player) (step : Step) (new : Player) : Type 0 where
  pub rank : State
  pub stays : StaysOpen (awaits_decision old.current) old.done old.rank step rank
  pub only : new ≡ polled (with_rank old rank) step (length old.rank.log)

-- one poll of the step, by what `call` said of it
abbrev pub Polls : Called → Player → Step → Player → Type 0
Polls Answered old step new = PollAnswers old step new
Polls NotYet old step new = PollOpens old step new

-- one poll of the step by `call`
abbrev pub IsCalled : Player → Step → Player → Type 0
IsCalled old step new = PollAnswers old step new ⊎ PollOpens old step new

-- this holds of the answer that was given, if one was
abbrev pub IfAnswered : Player → Player → (StepAnswer → Type 0) → Type 0
IfAnswered old new P = (report : StepReport) → new.done ≡ old.done ++ report ∷ [] → P report.answer

-- a step stands open, and one more poll of it leaves it so and changes nothing at the rank
pub record IsPolledInVain (p : Player) (asked : Step) : Type 0 where
  pub waits : p.current ≡ Some asked
  pub stays : StaysOpen (awaits_decision p.current) p.done p.rank asked p.rank

-- so many more polls in vain of the open step, begun at this length of the log
abbrev pub polled_on : Player → ℕ → Player
polled_on p times = record { rank = p.rank; done = p.done; current = p.current; at = length p.rank.log; polls = min (p.polls + times) (2 ^ 32 - 1) }

-- the open step gets the answer `unfinished`, with the place and the polls of its last poll
pub record GivesUpStep (old new : Player) : Type 0 where
  pub step : Step
  pub was_open : old.current ≡ Some step
  pub only : new ≡ answered old step Unfinished old.at

-- the step gets the answer `skipped` without a poll, where no step stands open
pub record SkipsStep (old : Player) (step : Step) (new : Player) : Type 0 where
  pub none_open : old.current ≡ None
  pub only : new ≡ answered old step Skipped (length old.rank.log)
