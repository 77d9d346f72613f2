use Rattle.ulfm_world.proofs.Common.{RevokedByARank}
use Rattle.ulfm_world.proofs.OneOrder.{revoked_by_a_rank}
use Rattle.ulfm_world.proofs.Reported.{of_replay}
use Rattle.ulfm_world.proofs.laws.revoked_by_a_rank.Goals as goal

pub returns : goal.returns
returns c = record { worlds = revoked_by_a_rank; replays = of_replay RevokedByARank revoked_by_a_rank }
