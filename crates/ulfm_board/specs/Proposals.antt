-- That a decision is the proposal of some rank.
use Rattle.std.specs.Prelude.{ℕ, List}
use Rattle.ulfm_base.specs.declared.decision.Decision.{Decision}
use Rattle.ulfm_base.specs.declared.topic.Topic.{Topic}
use Rattle.ulfm_log.specs.declared.entry.Entry.{Entry}
use Rattle.ulfm_log.specs.Proposal.{IsProposal}

-- a rank of a world of this size proposes it, by what its log has
pub record Proposer (d : Decision) : Type 0 where
  pub ranks : ℕ
  pub me : ℕ
  pub log : List Entry
  pub topic : Topic
  pub proposal : IsProposal ranks me log topic d

-- there is a rank that proposes it
abbrev pub WasProposed : Decision → Type 0
WasProposed d = ∥ Proposer d ∥₁
