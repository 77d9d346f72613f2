-- What ranks that shrank or agreed have in common (ULFM, shrink and agree).
use Rattle.std.specs.Prelude.{◌≡◌, ◌≢◌, ⊤, ℕ, true, List, Option, Some}
use Rattle.ulfm_base.specs.declared.contribution.Contribution.{Contribution}
use Rattle.ulfm_base.specs.declared.entrance.Entrance.{Entrance}
use Rattle.ulfm_base.specs.declared.topic.Topic.{Topic}
use Rattle.ulfm_base.specs.declared.decision.Decision.{Decision}
use Rattle.ulfm_base.specs.declared.error.CallError.TheVariants.{NotMember}
use Rattle.ulfm_base.specs.declared.rank_set.RankSet.{RankSet}
use Rattle.ulfm_base.specs.Decision.{entry_at}
use Rattle.ulfm_base.specs.Group.{is_member}
use Rattle.ulfm_base.specs.Lists.{at}
use Rattle.ulfm_base.specs.RankSet.{has}
use Rattle.ulfm_board.specs.Known.{known_at}
use Rattle.ulfm_log.specs.declared.entry.Entry.{Entry}
use Rattle.ulfm_log.specs.declared.entry.Entry.TheVariants.{Adopted, Entered}
use Rattle.ulfm_rank.specs.Checks.{group_at}
use Rattle.ulfm_log.specs.Log.{first_given}
use Rattle.ulfm_log.specs.Proposal.{entry_of, has_entered, has_proposal}
use Rattle.ulfm_log.specs.State.{State}
use Rattle.ulfm_script.specs.Answered.{StoodAt}
use Rattle.ulfm_script.specs.Deciding.{Known}
use Rattle.ulfm_answer.specs.Report.{Report}
use Rattle.ulfm_answer.specs.declared.answer.StepAnswer.TheVariants.{Refused}
use Rattle.ulfm_answer.specs.declared.answer.StepReport.{StepReport}
use Rattle.ulfm_report_laws.specs.Reports.{IsRunning, HasStopped, HasMade, HasAdopted}

-- A decision of a rank is the one that its decider knows, is about the group that the rank had at some place of its log, and
-- its new group has the rank.
pub record IsOwn (known : Known) (rank : State) (d : Decision) : Type 0 where
  pub held : known_at known d.topic ≡ Some d
  pub place : ℕ
  pub then : State
  pub stood : StoodAt rank place then
  pub group : d.old ≡ group_at then d.topic.context.number
  pub member : is_member d.fresh rank.me ≡ true

-- each decision that a rank adopted is its own, with what is known at the place of its number
abbrev pub AdoptOwn : List Known → List Report → Type 0
AdoptOwn knows reports =
    (k : ℕ) (report : Report) (known : Known) (d : Decision) → at reports k report → at knows k known → HasAdopted report d
    → IsOwn known report.rank d

-- the rank entered a topic, and brought this
abbrev pub HasEntered : Report → Topic → Contribution → Type 0
HasEntered report topic brought = first_given (entry_of topic) report.rank.log ≡ Some brought

-- two entrances of a log into one topic are one
abbrev pub EntersEachOnce : List Entry → Type 0
EntersEachOnce log = (k m : ℕ) (one other : Entrance) → at log k (Entered one) → at log m (Entered other) → one.topic ≡ other.topic → k ≡ m

-- each rank entered each topic once
abbrev pub EnterOnce : List Report → Type 0
EnterOnce reports = (r : ℕ) (report : Report) → at reports r report → EntersEachOnce report.rank.log

-- what the rank r reports: it entered a topic, and brought this
pub record EnteredWith (reports : List Report) (r : ℕ) (topic : Topic) (brought : Contribution) : Type 0 where
  pub report : Report
  pub reported : at reports r report
  pub entered : HasEntered report topic brought

-- what the rank r reports: it stopped
pub record StoppedAt (reports : List Report) (r : ℕ) : Type 0 where
  pub report : Report
  pub reported : at reports r report
  pub stopped : HasStopped report

-- each rank that is listed entered the topic, and brought what is listed for it
abbrev pub ListsTruly : List Report → Topic → List (Option Contribution) → Type 0
ListsTruly reports topic entries = (r : ℕ) (brought : Contribution) → entry_at entries r ≡ Some brought → EnteredWith reports r topic brought

-- each rank that is excluded stopped
abbrev pub ExcludesStopped : List Report → RankSet → Type 0
ExcludesStopped reports excluded = (r : ℕ) → has excluded r ≡ true → StoppedAt reports r

-- a decision is true of what the ranks report
pub record IsTrueOf (reports : List Report) (d : Decision) : Type 0 where
  pub listed : ListsTruly reports d.topic d.entries
  pub excluded : ExcludesStopped reports d.excluded

-- the decision that an entry adopts, if it adopts one, is true of what the ranks report
abbrev pub AdoptsTruly : List Report → Entry → Type 0
AdoptsTruly reports (Adopted d) = IsTrueOf reports d
AdoptsTruly reports _ = ⊤

-- each decision that a rank adopted is true of what the ranks report
abbrev pub AreTrue : List Report → Type 0
AreTrue reports =
    (s : ℕ) (report : Report) → at reports s report → (k : ℕ) (entry : Entry) → at report.rank.log k entry
    → AdoptsTruly reports entry

-- decisions that ranks adopted on one topic are equal
abbrev pub AdoptOne : List Report → Type 0
AdoptOne reports =
    (r s : ℕ) (report other : Report) (d e : Decision) → at reports r report → at reports s other → HasAdopted report d
    → HasAdopted other e → d.topic ≡ e.topic → d ≡ e

-- two ranks that made the communicator of a context have the same group for it
abbrev pub HasOneGroup : List Report → Type 0
HasOneGroup reports =
    (r s c : ℕ) (report other : Report) → at reports r report → at reports s other → HasMade report c → HasMade other c
    → group_at report.rank c ≡ group_at other.rank c

-- no step is refused since the decision isn't one for its rank to adopt
abbrev pub NoneIsForeign : List Report → Type 0
NoneIsForeign reports = (r k : ℕ) (report : Report) (step : StepReport) → at reports r report → at report.steps k step → step.answer ≢ Refused NotMember

-- each running rank of this group entered a topic
abbrev pub AllEntered : List Report → List ℕ → Topic → Type 0
AllEntered reports group topic =
    (m : ℕ) (member : Report) → at reports m member → is_member group m ≡ true → IsRunning member
    → has_entered member.rank.log topic ≡ true

-- where all running members of a communicator entered its shrink, or one agreement on it, each of them has a proposal there
abbrev pub ProposesEach : List Report → Type 0
ProposesEach reports =
    (r : ℕ) (topic : Topic) (report : Report) → at reports r report → IsRunning report → HasMade report topic.context.number
    → AllEntered reports (group_at report.rank topic.context.number) topic
    → has_proposal report.rank.me (group_at report.rank topic.context.number) report.rank.log topic ≡ true
