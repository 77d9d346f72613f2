use Rattle.ulfm_world.proofs.Common.{OverIsTrue, over_true}
use Rattle.ulfm_world.proofs.Reported.{in_world, in_replay}
use Rattle.ulfm_world.proofs.laws.each_over_is_true.Goals as goal

pub returns : goal.returns
returns c = record { worlds = in_world OverIsTrue over_true; replays = in_replay OverIsTrue over_true }
