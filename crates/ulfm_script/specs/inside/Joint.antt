-- What a rank proposes for a step that ranks decide together.
use Rattle.std.specs.Prelude.{◌≡◌, Some}
use Rattle.ulfm_base.specs.declared.decision.Decision.{Decision}
use Rattle.ulfm_base.specs.declared.topic.Topic.{Topic}
use Rattle.ulfm_rank.specs.Checks.{Passes, proposal_checks}
use Rattle.ulfm_log.specs.Proposal.{IsProposal}
use Rattle.ulfm_log.specs.State.{State}
use Rattle.ulfm_job.specs.declared.step.Step.{Step}
use Rattle.ulfm_script.specs.Deciding.{topic_of}

-- the rank proposes a decision on a topic
pub record ProposedOn (r : State) (topic : Topic) (d : Decision) : Type 0 where
  pub accepted : Passes (proposal_checks r topic)
  pub proposed : IsProposal r.ranks r.me r.log topic d

-- the rank proposes a decision for a step
pub record Proposed (r : State) (asked : Step) (d : Decision) : Type 0 where
  pub topic : Topic
  pub about : topic_of r.log asked ≡ Some topic
  pub on : ProposedOn r topic d
