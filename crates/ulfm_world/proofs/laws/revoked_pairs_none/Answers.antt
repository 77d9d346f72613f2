use Rattle.ulfm_report_laws.specs.Pending.{RevokedPairsNone}
use Rattle.ulfm_report_laws.proofs.Revoking.{revoked_pairs_none}
use Rattle.ulfm_world.proofs.Reported.{in_replay, in_world}
use Rattle.ulfm_world.proofs.laws.revoked_pairs_none.Goals as goal

pub returns : goal.returns
returns c = record { worlds = in_world RevokedPairsNone revoked_pairs_none; replays = in_replay RevokedPairsNone revoked_pairs_none }
