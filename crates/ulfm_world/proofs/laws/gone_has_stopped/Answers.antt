use Rattle.ulfm_world.proofs.Common.{GoneHaveStopped}
use Rattle.ulfm_world.proofs.Reported.{of_replay, gone_has_stopped}
use Rattle.ulfm_world.proofs.laws.gone_has_stopped.Goals as goal

pub returns : goal.returns
returns c = record { worlds = gone_has_stopped; replays = of_replay GoneHaveStopped gone_has_stopped }
