use Rattle.ulfm_world.proofs.Common.{NoneIsMissed}
use Rattle.ulfm_report_laws.proofs.Missed.{none_missed}
use Rattle.ulfm_world.proofs.Reported.{in_world, in_replay}
use Rattle.ulfm_world.proofs.laws.no_match_is_missed.Goals as goal

pub returns : goal.returns
returns c = record { worlds = in_world NoneIsMissed none_missed; replays = in_replay NoneIsMissed none_missed }
