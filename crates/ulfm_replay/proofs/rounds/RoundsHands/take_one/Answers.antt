use Rattle.std.proofs.Common.{refl}
use Rattle.ulfm_world.proofs.Moves.{onward}
use Rattle.ulfm_world.proofs.MovesItem.{moves-take}
use Rattle.ulfm_replay.proofs.rounds.RoundsHands.take_one.Goals as goal

pub returns-in-Ok-clause-moves : goal.returns-in-Ok-clause-moves
returns-in-Ok-clause-moves c = (refl, refl, onward _ _ _ _ (moves-take _ _ _ _ c.apply.ensures.world c.in-Ok.ensures.happens))
