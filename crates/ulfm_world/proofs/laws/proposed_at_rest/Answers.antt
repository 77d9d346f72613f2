use Rattle.ulfm_world.proofs.Read.{world-reached}
use Rattle.ulfm_world.proofs.Safe.{settled-reached}
use Rattle.ulfm_world.proofs.Shrunk.{proposes-each}
use Rattle.ulfm_world.proofs.laws.proposed_at_rest.Goals as goal

pub returns : goal.returns
returns c = λ n room w small h rest. proposes-each w (world-reached n room w small h) (settled-reached n room w small h) rest
