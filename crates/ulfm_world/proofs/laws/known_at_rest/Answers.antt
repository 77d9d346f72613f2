use Rattle.ulfm_world.proofs.Common.{reports_in, knows-stopped}
use Rattle.ulfm_world.proofs.Read.{world-reached, flowing-world, rest-world}
use Rattle.ulfm_world.proofs.laws.known_at_rest.Goals as goal

pub returns : goal.returns
returns c = λ n room w small h rest. knows-stopped w.inboxes (reports_in w) (flowing-world (world-reached n room w small h)) (rest-world rest)
