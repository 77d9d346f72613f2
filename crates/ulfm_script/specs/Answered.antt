-- What the answers of a rank's steps say of its log.
use Rattle.std.specs.Prelude.{◌≡◌, ℕ, ⊤, true, false, List, [], ◌∷◌, ◌++◌, ◌+◌, ◌<◌, ◌⊎◌, ◌≤◌, length, All, Some, None}
use Rattle.ulfm_base.specs.declared.topic.Topic.{Topic}
use Rattle.ulfm_base.specs.declared.decision.Decision.{Decision}
use Rattle.ulfm_base.specs.declared.error.CallError.TheVariants.{OutOfMemory}
use Rattle.ulfm_board.specs.Known.{known_at}
use Rattle.ulfm_log.specs.declared.entry.Entry.{Entry}
use Rattle.ulfm_log.specs.declared.entry.Entry.TheVariants.{Took, Stopped}
use Rattle.ulfm_log.specs.Facts.{is_stopped}
use Rattle.ulfm_rank.specs.Paired.{IsPaired}
use Rattle.ulfm_log.specs.State.{State}
use Rattle.ulfm_answer.specs.declared.answer.StepAnswer.{StepAnswer}
use Rattle.ulfm_answer.specs.declared.answer.StepAnswer.TheVariants.{Unfinished, Skipped, Refused}
use Rattle.ulfm_answer.specs.declared.answer.StepReport.{StepReport}
use Rattle.ulfm_job.specs.declared.step.Step.{Step}
use Rattle.ulfm_script.specs.Deciding.{Known, AnswersAdoption, HasProposal}
use Rattle.ulfm_script.specs.Calls.{AnswersStep, EntersBy, LeavesOpen}
use Rattle.ulfm_script.specs.Player.{is_joint}
use Rattle.ulfm_answer.specs.Report.{Report}

-- the rank as it stood when its log had so many entries; what left its outboxes plays no part in an answer
pub record StoodAt (rank : State) (many : ℕ) (then : State) : Type 0 where
  pub me : then.me ≡ rank.me
  pub ranks : then.ranks ≡ rank.ranks
  pub rest : List Entry
  pub beginning : then.log ++ rest ≡ rank.log
  pub entries : length then.log ≡ many

-- an entry tells of an item that was taken
abbrev pub IsTook : Entry → Type 0
IsTook (Took source item) = ⊤
IsTook _ = ⊥

-- from one place of a log up to another the rank only took items
pub record OnlyTook (log : List Entry) (from to : ℕ) : Type 0 where
  pub front : List Entry
  pub between : List Entry
  pub rest : List Entry
  pub whole : front ++ (between ++ rest) ≡ log
  pub begins : length front ≡ from
  pub ends : from + length between ≡ to
  pub took : All IsTook between

-- From one place of its log up to another the rank took items, and the step entered this topic once, with the failures known
-- there.
pub record EntersBetween (rank : State) (asked : Step) (topic : Topic) (from to : ℕ) : Type 0 where
  pub place : ℕ
  pub old : State
  pub new : State
  pub stood : StoodAt rank place old
  pub stood_next : StoodAt rank (place + 1) new
  pub enters : EntersBy old asked topic new
  pub took_before : OnlyTook rank.log from place
  pub took_after : OnlyTook rank.log (place + 1) to

-- The rank only took since the step before, and the call of this one answered it.
pub record AnsweredByCall (rank : State) (before : List StepReport) (from : ℕ) (report : StepReport)
    (old new : State) : Type 0 where
  pub took : OnlyTook rank.log from report.at
  pub answers : AnswersStep before old report.step report.answer new

-- The rank only took since the step before, and the call left this one open: a wait whose receive waits, a probe that found
-- nothing, or a step that ranks decide together, which this first call of it entered.
pub record LeftByCall (rank : State) (before : List StepReport) (from : ℕ) (report : StepReport) (old new : State) : Type 0 where
  pub took : OnlyTook rank.log from report.at
  pub given_up : report.answer ≡ Unfinished
  pub opens : LeavesOpen before old report.step new
  pub first : is_joint report.step ≡ true → report.polls ≡ 1

-- the decision that the rank's decider knows is adopted, or not, for a reason that stands
pub record AdoptsKnown (known : Known) (r : State) (asked : Step) (topic : Topic) (answer : StepAnswer) (new : State) : Type 0 where
  pub held : Decision
  pub knows : known_at known topic ≡ Some held
  pub adoption : AnswersAdoption r asked topic held answer new

-- the board was out of memory, where no decision is known, and nothing changes
pub record LacksMemory (known : Known) (r : State) (topic : Topic) (answer : StepAnswer) (new : State) : Type 0 where
  pub unknown : known_at known topic ≡ None
  pub refused : answer ≡ Refused OutOfMemory
  pub only : new ≡ r

-- The step entered its topic since the step before, by a call that left it open, and the rank had a proposal there; the decision
-- answers it.
pub record AnsweredByDecision (known : Known) (rank : State) (from : ℕ) (report : StepReport) (old new : State) : Type 0 where
  pub topic : Topic
  pub entered : EntersBetween rank report.step topic from report.at
  pub later : 0 < report.polls
  pub proposes : HasProposal old topic
  pub outcome : AdoptsKnown known old report.step topic report.answer new ⊎ LacksMemory known old topic report.answer new

-- The step entered its topic since the step before, and at a later poll the rank had no proposal there.
pub record LeftUndecided (rank : State) (from : ℕ) (report : StepReport) (old new : State) : Type 0 where
  pub topic : Topic
  pub entered : EntersBetween rank report.step topic from report.at
  pub given_up : report.answer ≡ Unfinished
  pub later : 1 < report.polls
  pub undecided : HasProposal old topic → ⊥
  pub only : new ≡ old

-- The rank only took since the step before, and this one was skipped, which nothing of the log tells of.
pub record WasSkipped (rank : State) (from : ℕ) (report : StepReport) (old new : State) : Type 0 where
  pub took : OnlyTook rank.log from report.at
  pub skipped : report.answer ≡ Skipped
  pub only : new ≡ old

-- How an answer came about: the call of the step gave it or left the step open, the ranks' decision gave it, there was no
-- decision to be had, or the step was skipped.
pub data How (known : Known) (rank : State) (before : List StepReport) (from : ℕ) (report : StepReport)
    (old new : State) : Type 0 where
  by_call : AnsweredByCall rank before from report old new → How known rank before from report old new
  left_by_call : LeftByCall rank before from report old new → How known rank before from report old new
  by_decision : AnsweredByDecision known rank from report old new → How known rank before from report old new
  left_undecided : LeftUndecided rank from report old new → How known rank before from report old new
  by_skip : WasSkipped rank from report old new → How known rank before from report old new

-- The step's answer is right for the rank as it stood at the report's place, after these answered steps, of which the last
-- one's entries end at the place `from`; what the answer adds to the log comes next, and ends at the place `to`.
pub record AnswerFollows (known : Known) (rank : State) (before : List StepReport) (from : ℕ)
    (report : StepReport) (to : ℕ) : Type 0 where
  pub old : State
  pub new : State
  pub stood : StoodAt rank report.at old
  pub stood_next : StoodAt rank to new
  pub onward : report.at ≤ to
  pub how : How known rank before from report old new

-- these steps are answered, one after another, from one place of the log to another
abbrev pub EachAnswerFollows : Known → State → List StepReport → ℕ → List StepReport → ℕ → Type 0
EachAnswerFollows known rank before from [] to = from ≡ to
EachAnswerFollows known rank before from (report ∷ reports) to =
    (next : ℕ) × AnswerFollows known rank before from report next
    × EachAnswerFollows known rank (before ++ report ∷ []) next reports to

-- the stop, where the log has one, is its last entry
pub record EndsAtStop (log : List Entry) : Type 0 where
  pub front : List Entry
  pub running : is_stopped front ≡ false
  pub last : log ≡ front ++ Stopped ∷ []

-- Each answer of a rank is its step's answer on the log's beginning up to its place, where a decision is the one that its
-- decider knows. After the last one the rank only took, and nothing after a stop. The log's history has one lawful pairing,
-- and its pairs inside a beginning are those by which a wait is answered there.
pub record AnswersFollow (known : Known) (report : Report) : Type 0 where
  pub last : ℕ
  pub answers : EachAnswerFollows known report.rank [] 0 report.steps last
  pub took : OnlyTook report.rank.log last (length report.rank.log)
  pub stop : is_stopped report.rank.log ≡ true → EndsAtStop report.rank.log
  pub paired : IsPaired report.rank.log
