use Rattle.ulfm_world.proofs.Foreign.{none_foreign}
use Rattle.ulfm_world.proofs.Reported.{of_replay}
use Rattle.ulfm_world.proofs.laws.none_is_foreign.Goals as goal
use Rattle.ulfm_report_laws.specs.Decisions.{NoneIsForeign}

pub returns : goal.returns
returns c = record { worlds = none_foreign; replays = of_replay NoneIsForeign none_foreign }
