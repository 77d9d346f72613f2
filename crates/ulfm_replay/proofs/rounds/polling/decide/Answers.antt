use Rattle.ulfm_world.proofs.MovesCall.{moves-decide}
use Rattle.ulfm_replay.proofs.rounds.polling.decide.Goals as goal

pub returns-in-Ok-clause-moves : goal.returns-in-Ok-clause-moves
returns-in-Ok-clause-moves c = moves-decide _ _ _ _ _ c.apply.ensures.world c.requires.follows c.in-Ok.ensures.happens
