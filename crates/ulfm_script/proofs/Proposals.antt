-- Proposals for steps that ranks decide together.
use Rattle.std.proofs.Common.{◌≡◌, IfSome, Option, Some, None}
use Rattle.ulfm_script.proofs.Common.{Decision, State, Step, Topic}
use Rattle.ulfm_script.specs.Deciding.{topic_of}
use Rattle.ulfm_script.specs.inside.Joint.{Proposed, ProposedOn}

-- what is proposed on a step's topic is proposed for the step
pub proposed_by : (r : State) (asked : Step) (topic : Topic) (found : Option Decision) → topic_of r.log asked ≡ Some topic → IfSome found (ProposedOn r topic) → IfSome found (Proposed r asked)
proposed_by r asked topic None about h = tt
proposed_by r asked topic (Some d) about h = record { topic = topic; about = about; on = h }
