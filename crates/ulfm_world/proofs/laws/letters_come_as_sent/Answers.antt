use Rattle.ulfm_world.proofs.Common.{ComeAsSent}
use Rattle.ulfm_world.proofs.Reported.{in_world, in_replay}
use Rattle.ulfm_world.proofs.laws.letters_come_as_sent.Goals as goal

pub returns : goal.returns
returns c = record { worlds = in_world ComeAsSent (λ reports all. all.sent); replays = in_replay ComeAsSent (λ reports all. all.sent) }
