-- How the decision of a shrink or an agreement is asked for and adopted.
use Rattle.std.specs.Prelude.{◌≡◌, false, ◌⊎◌}
use Rattle.ulfm_base.specs.declared.decision.Decision.{Decision}
use Rattle.ulfm_base.specs.declared.error.CallError.{CallError}
use Rattle.ulfm_base.specs.declared.error.CallError.TheVariants.{OutOfMemory}
use Rattle.ulfm_base.specs.declared.topic.Topic.{Topic}
use Rattle.ulfm_board.specs.Known.{Answers, Known, Starves}
use Rattle.ulfm_board.specs.Proposals.{WasProposed}
use Rattle.ulfm_log.specs.declared.entry.Entry.TheVariants.{Adopted}
use Rattle.ulfm_rank.specs.Checks.{Passes, Fails, FailsOrStarves, group_at, adopt_checks, proposal_checks}
use Rattle.ulfm_log.specs.Proposal.{IsProposal, has_proposal}
use Rattle.ulfm_log.specs.State.{logged}
use Rattle.ulfm_c.specs.View.{ProcessView, with_rank}

-- the process with other decisions that its seat knows
abbrev pub with_known : ProcessView → Known → ProcessView
with_known p known = record { rank = p.rank; end = p.end; board = p.board; known = known }

-- what the rank proposes on a topic
abbrev pub Proposes : ProcessView → Topic → Decision → Type 0
Proposes p topic proposal = IsProposal p.rank.ranks p.rank.me p.rank.log topic proposal

-- the rank has no proposal on a topic yet, and nothing changes
pub record Waits (old new : ProcessView) (topic : Topic) : Type 0 where
  pub accepted : Passes (proposal_checks old.rank topic)
  pub incomplete : has_proposal old.rank.me (group_at old.rank topic.context.number) old.rank.log topic ≡ false
  pub only : new ≡ old

-- the rank's proposal was handed in, and this is the decision that the board holds: some rank proposed it
pub record IsHeld (old : ProcessView) (topic : Topic) (held : Decision) (later : Known) : Type 0 where
  pub proposal : Decision
  pub proposed : Proposes old topic proposal
  pub board_answers : Answers old.board old.known proposal held later
  pub was_proposed : WasProposed held

-- the decision that the board holds is adopted
pub record Adopts (old new : ProcessView) (topic : Topic) (held : Decision) : Type 0 where
  pub is_held : IsHeld old topic held new.known
  pub accepted : Passes (adopt_checks old.rank topic held)
  pub only : new ≡ with_rank (with_known old new.known) (logged old.rank (Adopted held))

-- no proposal may be asked for, and nothing changes
pub record FailsAtOnce (old new : ProcessView) (topic : Topic) (e : CallError) : Type 0 where
  pub fails : Fails (proposal_checks old.rank topic) e
  pub only : new ≡ old

-- a proposal may be asked for, but the board found no memory, and nothing changes
pub record FindsNoMemory (old new : ProcessView) (topic : Topic) (e : CallError) : Type 0 where
  pub accepted : Passes (proposal_checks old.rank topic)
  pub proposal : Decision
  pub proposed : Proposes old topic proposal
  pub starves : Starves old.known proposal.topic
  pub starved : e ≡ OutOfMemory
  pub only : new ≡ old

-- the decision that the board holds isn't adopted, and the rank stays as it was
pub record AdoptsNot (old new : ProcessView) (topic : Topic) (e : CallError) : Type 0 where
  pub held : Decision
  pub is_held : IsHeld old topic held new.known
  pub fails : FailsOrStarves (adopt_checks old.rank topic held) e
  pub only : new ≡ with_known old new.known

-- why a poll is refused
abbrev pub IsPollRefusal : ProcessView → ProcessView → Topic → CallError → Type 0
IsPollRefusal old new topic e = FailsAtOnce old new topic e ⊎ FindsNoMemory old new topic e ⊎ AdoptsNot old new topic e
