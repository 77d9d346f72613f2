use Rattle.ulfm_report_laws.specs.Pending.{RevokedRefusesNone}
use Rattle.ulfm_world.proofs.Foreign.{revoked_refuses_none}
use Rattle.ulfm_world.proofs.Reported.{of_replay}
use Rattle.ulfm_world.proofs.laws.revoked_refuses_none.Goals as goal

pub returns : goal.returns
returns c = record { worlds = revoked_refuses_none; replays = of_replay RevokedRefusesNone revoked_refuses_none }
