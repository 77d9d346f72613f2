use Rattle.ulfm_world.proofs.Reported.{rest_world, rest_replay}
use Rattle.ulfm_world.proofs.laws.all_come_at_rest.Goals as goal

pub returns : goal.returns
returns c = record { worlds = rest_world; replays = rest_replay }
