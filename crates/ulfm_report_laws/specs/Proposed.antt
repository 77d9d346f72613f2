-- What a rank proposes, and that a decision is a proposal that was made earlier (ULFM, shrink and agree).
use Rattle.std.specs.Prelude.{◌≡◌, ℕ, true, List, ◌<◌, ◌≤◌, ◌||◌, ◌⊎◌, Some, length, take}
use Rattle.std.specs.List.{list_any}
use Rattle.ulfm_base.specs.declared.decision.Decision.{Decision}
use Rattle.ulfm_base.specs.declared.error.CallError.TheVariants.{OutOfMemory}
use Rattle.ulfm_base.specs.declared.topic.Topic.{Topic}
use Rattle.ulfm_base.specs.Decision.{entry_at, in_entry}
use Rattle.ulfm_base.specs.Group.{is_member}
use Rattle.ulfm_base.specs.Lists.{at}
use Rattle.ulfm_base.specs.RankSet.{has}
use Rattle.ulfm_log.specs.declared.entry.Entry.{Entry}
use Rattle.ulfm_log.specs.declared.entry.Entry.TheVariants.{Adopted}
use Rattle.ulfm_log.specs.Facts.{is_gone}
use Rattle.ulfm_log.specs.Proposal.{IsProposal, has_entered, listed_of}
use Rattle.ulfm_answer.specs.declared.answer.StepAnswer.TheVariants.{Refused}
use Rattle.ulfm_answer.specs.declared.answer.StepReport.{StepReport}
use Rattle.ulfm_script.specs.Deciding.{topic_of}
use Rattle.ulfm_answer.specs.Report.{Report}

-- The rank `me` with this log proposes a decision, as far as that isn't said of each decision: it entered the topic, and lists each member
-- as the decision does. A member is excluded exactly where the log tells of its failure, or what a listed member brought does. Where the
-- decision is about the group that the log made, this is the rank's proposal (`IsProposal`), as it is wherever reports are lawful.
pub record ProposesBy (me : ℕ) (log : List Entry) (d : Decision) : Type 0 where
  pub entered : has_entered log d.topic ≡ true
  pub listed : (r : ℕ) → r < 8 → is_member d.old r ≡ true → entry_at d.entries r ≡ listed_of me log d.topic r
  pub excluded : (r : ℕ) → r < 8 → is_member d.old r ≡ true
      → has d.excluded r ≡ (is_gone log r || list_any (λ entry. in_entry entry r) d.entries)

-- a log adopts a decision on a topic at this place
pub record AdoptsAt (log : List Entry) (place : ℕ) (topic : Topic) : Type 0 where
  pub held : Decision
  pub stands : at log place (Adopted held)
  pub about : held.topic ≡ topic

-- a step that is decided on a topic, by the log up to this place, found no memory there
pub record StarvesAt (log : List Entry) (steps : List StepReport) (place : ℕ) (topic : Topic) : Type 0 where
  pub number : ℕ
  pub step : StepReport
  pub stands : at steps number step
  pub placed : step.at ≡ place
  pub about : topic_of (take place log) step.step ≡ Some topic
  pub starves : step.answer ≡ Refused OutOfMemory

-- A rank proposes a decision at a place of its log where it adopts one on the topic, or where a step that is decided on this topic found no
-- memory.
pub record ProposesAt (me : ℕ) (log : List Entry) (steps : List StepReport) (place : ℕ) (d : Decision) : Type 0 where
  pub within : place ≤ length log
  pub asks : AdoptsAt log place d.topic ⊎ StarvesAt log steps place d.topic
  pub proposes : ProposesBy me (take place log) d

-- some rank proposed a decision, and all that it did before comes before this time
pub record IsProposedEarlier (reports : List Report) (time : ℕ → ℕ → ℕ) (now : ℕ) (d : Decision) : Type 0 where
  pub rank : ℕ
  pub told : Report
  pub reported : at reports rank told
  pub place : ℕ
  pub made : ProposesAt rank told.rank.log told.steps place d
  pub earlier : (j : ℕ) → j < place → time rank j < now

-- some rank proposed a decision earlier, and that is the whole proposal of this rank, one of n, by its log up to there
pub record IsProposalEarlier (n : ℕ) (reports : List Report) (time : ℕ → ℕ → ℕ) (now : ℕ) (d : Decision) : Type 0 where
  pub earlier : IsProposedEarlier reports time now d
  pub proposal : IsProposal n earlier.rank (take earlier.place earlier.told.rank.log) d.topic d
