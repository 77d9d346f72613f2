-- How the decision of a shrink or an agreement is asked for and adopted.
use Rattle.std.specs.Prelude.{◌≡◌, ℕ, true, List, ◌⊎◌, filter_map, length, Option, Some, None}
use Rattle.ulfm_base.specs.Topic.{round_of}
use Rattle.ulfm_base.specs.declared.context.Context.{Context}
use Rattle.ulfm_base.specs.declared.decision.Decision.{Decision}
use Rattle.ulfm_base.specs.declared.error.CallError.TheVariants.{OutOfMemory}
use Rattle.ulfm_base.specs.declared.topic.Topic.{Topic}
use Rattle.ulfm_base.specs.Context.{nth_shrink}
use Rattle.ulfm_base.specs.Decision.{left_out}
use Rattle.ulfm_base.specs.Group.{rank_in}
pub use Rattle.ulfm_board.specs.Known.{Known}
use Rattle.ulfm_board.specs.Known.{Answers as BoardAnswers, Starves}
use Rattle.ulfm_log.specs.declared.entry.Entry.{Entry}
use Rattle.ulfm_log.specs.declared.entry.Entry.TheVariants.{Adopted}
use Rattle.ulfm_log.specs.State.{State, logged}
use Rattle.ulfm_rank.specs.Checks.{Passes, group_at, proposal_checks, adopt_checks}
use Rattle.ulfm_log.specs.Proposal.{has_proposal, IsProposal, last_agreement, last_shrink}
use Rattle.ulfm_job.specs.Job.{decides_on}
use Rattle.ulfm_job.specs.declared.step.Step.{Step}
use Rattle.ulfm_job.specs.declared.step.Step.TheVariants.{Shrink, Agree}
use Rattle.ulfm_answer.specs.declared.answer.StepAnswer.{StepAnswer}
use Rattle.ulfm_answer.specs.declared.answer.StepAnswer.TheVariants.{Shrunk, Agreed, Refused}
use Rattle.ulfm_script.specs.declared.called.Decided.{Decided}
use Rattle.ulfm_script.specs.declared.called.Decided.TheVariants.{Answered, NotReady}
use Rattle.ulfm_script.specs.Calls.{Refuses}
use Rattle.ulfm_script.specs.Player.{Player, with_rank, answered}

-- what a step that was entered is decided on: the shrink of its communicator, or the agreement on it, that the rank entered last
abbrev pub topic_of : List Entry → Step → Option Topic
topic_of log (Shrink comm again) = Some (last_shrink log comm)
topic_of log (Agree flag comm) = Some (last_agreement log comm)
topic_of log _ = None

-- the positions in the communicator of its members that a decision doesn't list
abbrev pub missing_in : Decision → List ℕ
missing_in d = filter_map (λ member. rank_in d.old member) (left_out d.old d.entries)

-- The adoption of a decision answers a shrink with the new communicator, its group, and the rank's own position there; and an
-- agreement with its value and the members that are left out. Or the answer is why it is refused.
abbrev pub AnswersAdoption : State → Step → Topic → Decision → StepAnswer → State → Type 0
AnswersAdoption r (Shrink comm again) topic held (Shrunk child group me) new =
    Passes (adopt_checks r topic held)
    × (child.context.number ≡ nth_shrink (round_of held.topic.purpose) comm.number)
    × (group ≡ held.fresh)
    × (rank_in held.fresh r.me ≡ Some me)
    × (new ≡ logged r (Adopted held))
AnswersAdoption r (Agree flag comm) topic held (Agreed value missing) new =
    Passes (adopt_checks r topic held)
    × (held.value ≡ Some value)
    × (missing.items ≡ missing_in held)
    × (new ≡ logged r (Adopted held))
AnswersAdoption r asked topic held (Refused e) new = Refuses (adopt_checks r topic held) e r new
AnswersAdoption r asked topic held _ new = ⊥

-- the decision that the board holds, once the proposal is handed in, is adopted
pub record AdoptsBoardDecision (board : Option (List ℕ)) (known later : Known) (proposal : Decision)
    (r : State) (asked : Step) (topic : Topic) (answer : StepAnswer) (new : State) : Type 0 where
  pub held : Decision
  pub board_answers : BoardAnswers board known proposal held later
  pub adoption : AnswersAdoption r asked topic held answer new

-- the board found no memory, and nothing changes
pub record BoardStarves (known later : Known) (proposal : Decision) (r : State)
    (answer : StepAnswer) (new : State) : Type 0 where
  pub starves : Starves known proposal.topic
  pub known_stay : later ≡ known
  pub refused : answer ≡ Refused OutOfMemory
  pub rank_stays : new ≡ r

-- A step that ranks decide together is decided: the rank's proposal is handed in at the board, and the decision that is held
-- there is adopted, or the board has no memory.
pub record AnswersDecision (board : Option (List ℕ)) (known later : Known) (r : State) (asked : Step)
    (answer : StepAnswer) (new : State) : Type 0 where
  pub topic : Topic
  pub about : topic_of r.log asked ≡ Some topic
  pub accepted : Passes (proposal_checks r topic)
  pub proposal : Decision
  pub proposed : IsProposal r.ranks r.me r.log topic proposal
  pub outcome : AdoptsBoardDecision board known later proposal r asked topic answer new
      ⊎ BoardStarves known later proposal r answer new

-- a rank has a proposal on a topic
pub record HasProposal (r : State) (topic : Topic) : Type 0 where
  pub accepted : Passes (proposal_checks r topic)
  pub complete : has_proposal r.me (group_at r topic.context.number) r.log topic ≡ true

-- a step is decided on a topic, and the rank has a proposal there
pub record IsReady (r : State) (asked : Step) : Type 0 where
  pub topic : Topic
  pub about : topic_of r.log asked ≡ Some topic
  pub proposes : HasProposal r topic

-- the board knows no decision of a step
pub record KnowsNone (known : Known) (r : State) (asked : Step) : Type 0 where
  pub topic : Topic
  pub about : topic_of r.log asked ≡ Some topic
  pub starves : Starves known topic

-- a shrink of this communicator or an agreement on it stands open, and has a proposal
pub record IsReadyToDecide (p : Player) (comm : Context) : Type 0 where
  pub asked : Step
  pub waits : p.current ≡ Some asked
  pub on : decides_on asked ≡ Some comm
  pub ready : IsReady p.rank asked

-- the open shrink of this communicator or agreement on it is decided, and answered
pub record IsDecided (old : Player) (comm : Context) (board : Option (List ℕ)) (known : Known) (new : Player)
    (later : Known) : Type 0 where
  pub asked : Step
  pub waits : old.current ≡ Some asked
  pub on : decides_on asked ≡ Some comm
  pub answer : StepAnswer
  pub rank : State
  pub decision : AnswersDecision board known later old.rank asked answer rank
  pub only : new ≡ answered (with_rank old rank) asked answer (length old.rank.log)

-- it isn't ready, and nothing changes
pub record IsNotReady (old : Player) (comm : Context) (known : Known) (new : Player) (later : Known) : Type 0 where
  pub not_ready : IsReadyToDecide old comm → ⊥
  pub player_stays : new ≡ old
  pub known_stay : later ≡ known

-- the decision on a communicator is asked for, by what `decide` said of it
abbrev pub Decides : Decided → Player → Context → Option (List ℕ) → Known → Player → Known → Type 0
Decides Answered old comm board known new later = IsDecided old comm board known new later
Decides NotReady old comm board known new later = IsNotReady old comm known new later
