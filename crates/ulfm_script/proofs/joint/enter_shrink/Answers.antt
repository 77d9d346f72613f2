use Rattle.std.proofs.Common.{refl}
use Rattle.ulfm_script.proofs.joint.enter_shrink.Goals as goal

pub returns-in-Ok-clause-enters : goal.returns-in-Ok-clause-enters
returns-in-Ok-clause-enters c = (_, record { about = refl; accepted = c.in-Ok.ensures.accepted; enters = c.in-Ok.ensures.enters })
