-- What decisions of shrinks and agreements keep, whatever events come (ULFM, shrink and agree).
use Rattle.std.specs.Prelude.{◌≡◌, ℕ, true, ◌<◌, ◌++◌, ◌∷◌, [], length, take, Option, Some, slice_get}
use Rattle.ulfm_base.specs.declared.context.Context.{Context}
use Rattle.ulfm_base.specs.declared.decision.Decision.{Decision}
use Rattle.ulfm_base.specs.declared.error.CallError.{CallError}
use Rattle.ulfm_base.specs.declared.error.CallError.TheVariants.{OutOfMemory}
use Rattle.ulfm_base.specs.declared.contribution.Contribution.{Contribution}
use Rattle.ulfm_base.specs.declared.entrance.Entrance.{Entrance}
use Rattle.ulfm_base.specs.declared.topic.Topic.{Topic}
use Rattle.ulfm_base.specs.Decision.{entry_at}
use Rattle.ulfm_base.specs.Group.{is_member}
use Rattle.ulfm_base.specs.RankSet.{has}
use Rattle.ulfm_board.specs.Known.{known_at}
use Rattle.ulfm_log.specs.declared.entry.Entry.TheVariants.{Entered}
use Rattle.ulfm_log.specs.Log.{first_given}
use Rattle.ulfm_log.specs.Facts.{Knows}
use Rattle.ulfm_log.specs.Proposal.{entry_of}
use Rattle.ulfm_answer.specs.declared.answer.StepAnswer.TheVariants.{Refused}
use Rattle.ulfm_job.specs.declared.step.Step.{Step}
use Rattle.ulfm_script.specs.Player.{step_report}
use Rattle.ulfm_report_laws.specs.Reports.{HasAdopted}
use Rattle.ulfm_report_laws.specs.Decisions.{AdoptOne, EnterOnce, HasOneGroup}
use Rattle.ulfm_world.specs.declared.event.Event.TheVariants.{Decide}
use Rattle.ulfm_world.specs.World.{World, player_at, rank_at, HasStopped, Happens, report_of, reports_in}

-- the decision on a topic, if it is decided
abbrev pub decided_at : World → Topic → Option Decision
decided_at w topic = known_at w.decided topic

-- what the rank r brought into a topic, if it entered it
abbrev pub entry_at_rank : World → ℕ → Topic → Option Contribution
entry_at_rank w r topic = first_given (entry_of topic) (rank_at w r).log

-- This entrance brought what counts of the rank r, and the rank knew its failures at this place of its log.
pub record EntersFirst (w : World) (r place : ℕ) (entrance : Entrance) : Type 0 where
  pub first : entry_at_rank w r entrance.topic ≡ Some entrance.contribution
  pub knew : Knows (take place (rank_at w r).log) entrance.contribution.known

-- A rank enters a topic once, with the failures that it knows then: two entrances into one topic are one.
pub record EntersOnce (w : World) : Type 0 where
  pub once : EnterOnce (reports_in w)
  pub knows : (r place : ℕ) (entrance : Entrance) → r < length w.players
      → slice_get (rank_at w r).log place ≡ Some (Entered entrance) → EntersFirst w r place entrance

-- Each listed rank brought what is listed for it; each excluded rank has stopped; and a member of the old group whose failure a
-- member of the new group knew at its entrance is excluded.
pub record IsSafe (w : World) (d : Decision) : Type 0 where
  pub listed : (r : ℕ) (brought : Contribution) → entry_at d.entries r ≡ Some brought → entry_at_rank w r d.topic ≡ Some brought
  pub stopped : (r : ℕ) → has d.excluded r ≡ true → HasStopped w r
  pub excluded : (m r : ℕ) (brought : Contribution) → is_member d.fresh m ≡ true → entry_at_rank w m d.topic ≡ Some brought
      → has brought.known r ≡ true → is_member d.old r ≡ true → has d.excluded r ≡ true

-- a decision that is held on a topic is about it, and safe
pub record IsDecidedSafely (w : World) (topic : Topic) (d : Decision) : Type 0 where
  pub about : d.topic ≡ topic
  pub safe : IsSafe w d

-- each decision is about the topic on which it is held, and safe
abbrev pub DecidesSafely : World → Type 0
DecidesSafely w = (topic : Topic) (d : Decision) → decided_at w topic ≡ Some d → IsDecidedSafely w topic d

-- the decision that the rank r adopted is the one that is held, and its new group has the rank
pub record IsHeldOf (w : World) (r : ℕ) (d : Decision) : Type 0 where
  pub held : decided_at w d.topic ≡ Some d
  pub member : is_member d.fresh r ≡ true

-- a rank that adopted a decision is in its new group, and it is the decision that is held
abbrev pub AdoptsHeld : World → Type 0
AdoptsHeld w = (r : ℕ) (d : Decision) → r < length w.players → HasAdopted (report_of (player_at w r)) d → IsHeldOf w r d

-- a decision that is held once a rank decided was safe before: each excluded rank had stopped
abbrev pub SettlesSafely : World → Type 0
SettlesSafely old =
    (r : ℕ) (comm : Context) (new : World) (topic : Topic) (d : Decision) → Happens old (Decide r comm) new
    → decided_at new topic ≡ Some d → IsSafe old d

-- the rank r refused its open step for this cause, in the step from the one world to the other
pub record RefusesDecision (old : World) (r : ℕ) (new : World) (e : CallError) : Type 0 where
  pub asked : Step
  pub at : ℕ
  pub polls : ℕ
  pub answer : (player_at new r).done ≡ (player_at old r).done ++ step_report asked (Refused e) at polls ∷ []

-- a step that is decided is refused by out of memory alone
abbrev pub StarvesAlone : World → Type 0
StarvesAlone old =
    (r : ℕ) (comm : Context) (new : World) (e : CallError) → Happens old (Decide r comm) new
    → RefusesDecision old r new e → e ≡ OutOfMemory

-- What decisions keep: each rank enters once, decisions are safe and are adopted as they are held, the next one too, and there
-- is one decision on each topic, and one group for each context. Out of memory alone keeps a rank from adopting.
pub record KeepsDecisions (w : World) : Type 0 where
  pub entered : EntersOnce w
  pub decided : DecidesSafely w
  pub settled : SettlesSafely w
  pub adopted : AdoptsHeld w
  pub starved : StarvesAlone w
  pub one_decision : AdoptOne (reports_in w)
  pub one_group : HasOneGroup (reports_in w)
