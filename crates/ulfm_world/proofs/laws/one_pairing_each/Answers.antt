use Rattle.ulfm_world.proofs.Common.{HasOnePairing}
use Rattle.ulfm_report_laws.proofs.Missed.{one_each}
use Rattle.ulfm_world.proofs.Reported.{in_world, in_replay}
use Rattle.ulfm_world.proofs.laws.one_pairing_each.Goals as goal

pub returns : goal.returns
returns c = record { worlds = in_world HasOnePairing one_each; replays = in_replay HasOnePairing one_each }
