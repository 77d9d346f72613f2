use Rattle.ulfm_world.proofs.Common.{DoneIsGiven, done_given}
use Rattle.ulfm_world.proofs.Reported.{in_world, in_replay}
use Rattle.ulfm_world.proofs.laws.each_done_was_sent.Goals as goal

pub returns : goal.returns
returns c = record { worlds = in_world DoneIsGiven done_given; replays = in_replay DoneIsGiven done_given }
