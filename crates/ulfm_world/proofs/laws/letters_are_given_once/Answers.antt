use Rattle.ulfm_world.proofs.Common.{GivesOnce, DonesDiffer, gives_once, dones_differ}
use Rattle.ulfm_world.proofs.Reported.{in_world, in_replay}
use Rattle.ulfm_world.proofs.laws.letters_are_given_once.Goals as goal

pub returns : goal.returns
returns c = record {
  worlds = in_world GivesOnce gives_once;
  replays = in_replay GivesOnce gives_once;
  dones_of_worlds = in_world DonesDiffer dones_differ;
  dones_of_replays = in_replay DonesDiffer dones_differ;
}
