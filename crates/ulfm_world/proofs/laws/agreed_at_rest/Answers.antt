use Rattle.ulfm_world.proofs.Common.{reports_in, agrees-revoked}
use Rattle.ulfm_world.proofs.Read.{world-reached, flowing-world, rest-world}
use Rattle.ulfm_world.proofs.laws.agreed_at_rest.Goals as goal

pub returns : goal.returns
returns c = λ n room w small h rest. agrees-revoked w.inboxes (reports_in w) (flowing-world (world-reached n room w small h)) (rest-world rest)
