-- That a rank proposed a decision at a place of its log, by what tells of it there.
use Rattle.std.specs.Prelude.{◌≡◌, ℕ, true, List, ◌<◌, ◌≤◌, ◌||◌, ◌⊎◌, Some, length, take, slice_index}
use Rattle.std.specs.List.{list_any}
use Rattle.ulfm_base.specs.declared.decision.Decision.{Decision}
use Rattle.ulfm_base.specs.declared.error.CallError.TheVariants.{OutOfMemory}
use Rattle.ulfm_base.specs.declared.topic.Topic.{Topic}
use Rattle.ulfm_base.specs.Decision.{entry_at, in_entry}
use Rattle.ulfm_base.specs.Group.{is_member}
use Rattle.ulfm_base.specs.Lists.{at}
use Rattle.ulfm_base.specs.RankSet.{has}
use Rattle.ulfm_log.specs.declared.entry.Entry.{Entry}
use Rattle.ulfm_log.specs.declared.entry.Entry.TheVariants.{Adopted}
use Rattle.ulfm_log.specs.Facts.{is_gone}
use Rattle.ulfm_log.specs.Proposal.{listed_of}
use Rattle.ulfm_answer.specs.declared.answer.StepAnswer.TheVariants.{Refused}
use Rattle.ulfm_answer.specs.declared.answer.StepReport.{StepReport}
use Rattle.ulfm_script.specs.Deciding.{topic_of}
use Rattle.ulfm_answer.specs.Report.{Report}
use Rattle.ulfm_report_laws.specs.Proposed.{ProposesBy}

-- the rank `me` with this log lists r as a decision does, if r is a member
abbrev pub IsListedAs : ℕ → List Entry → Decision → ℕ → Type 0
IsListedAs me log d r = is_member d.old r ≡ true → entry_at d.entries r ≡ listed_of me log d.topic r

-- so it lists each member
abbrev pub ListsAs : ℕ → List Entry → Decision → Type 0
ListsAs me log d = (r : ℕ) → r < 8 → IsListedAs me log d r

-- a decision excludes each member whose failure this log or a listed member knows, and no other
abbrev pub ExcludesAs : List Entry → Decision → Type 0
ExcludesAs log d = (r : ℕ) → r < 8 → is_member d.old r ≡ true → has d.excluded r ≡ (is_gone log r || list_any (λ entry. in_entry entry r) d.entries)

-- an entry adopts a decision on a topic
abbrev pub IsAdoption : Entry → Topic → Type 0
IsAdoption (Adopted d) topic = d.topic ≡ topic
IsAdoption _ topic = ⊥

-- an entry at a place up to this front adopts a decision on the topic of this one, which the rank `me` proposes there
pub record AdoptsHere (me : ℕ) (log : List Entry) (front : ℕ) (d : Decision) (place : ℕ) (entry : Entry) : Type 0 where
  pub early : place ≤ front
  pub adopts : IsAdoption entry d.topic
  pub proposes : ProposesBy me (take place log) d

-- a step that is decided on the topic of a decision found no memory at a place up to this front, and the rank `me` proposes the decision there
pub record StarvesHere (me : ℕ) (log : List Entry) (front : ℕ) (d : Decision) (step : StepReport) : Type 0 where
  pub early : step.at ≤ front
  pub within : step.at ≤ length log
  pub about : topic_of (take step.at log) step.step ≡ Some d.topic
  pub starves : step.answer ≡ Refused OutOfMemory
  pub proposes : ProposesBy me (take step.at log) d

-- some such entry adopts
abbrev pub IsAdoptedWithin : ℕ → List Entry → ℕ → Decision → Type 0
IsAdoptedWithin me log front d = (place : ℕ) × (entry : Entry) × at log place entry × AdoptsHere me log front d place entry

-- some such step found no memory
abbrev pub IsStarvedWithin : ℕ → List Entry → List StepReport → ℕ → Decision → Type 0
IsStarvedWithin me log steps front d = (k : ℕ) × (step : StepReport) × at steps k step × StarvesHere me log front d step

-- the rank `me` proposed a decision at a place up to this front
abbrev pub IsProposedIn : ℕ → Report → ℕ → Decision → Type 0
IsProposedIn me told front d = IsAdoptedWithin me told.rank.log front d ⊎ IsStarvedWithin me told.rank.log told.steps front d

-- this rank proposed a decision at a place up to which it was walked
pub record IsProposedByRank (reports : List Report) (fronts : List ℕ) (rank : ℕ) (d : Decision) : Type 0 where
  pub told : Report
  pub reported : at reports rank told
  pub proposed : IsProposedIn rank told (slice_index fronts rank) d
