use Rattle.ulfm_world.proofs.Common.{FoundIsGiven, found_given}
use Rattle.ulfm_world.proofs.Reported.{in_world, in_replay}
use Rattle.ulfm_world.proofs.laws.each_found_was_sent.Goals as goal

pub returns : goal.returns
returns c = record { worlds = in_world FoundIsGiven found_given; replays = in_replay FoundIsGiven found_given }
