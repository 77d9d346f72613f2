use Rattle.std.proofs.Common.{refl}
use Rattle.ulfm_world.proofs.Moves.{onward}
use Rattle.ulfm_world.proofs.MovesItem.{moves-push}
use Rattle.ulfm_replay.proofs.rounds.RoundsHands.push_one.Goals as goal

pub returns-in-Ok-clause-moves : goal.returns-in-Ok-clause-moves
returns-in-Ok-clause-moves c = (refl, refl, onward _ _ _ _ (moves-push _ _ _ _ c.apply.ensures.world c.in-Ok.ensures.happens))

pub returns-in-Ok-clause-fewer : goal.returns-in-Ok-clause-fewer
returns-in-Ok-clause-fewer c = λ _. (moves-push c.args.self.now.job.now _ _ _ c.apply.ensures.world c.in-Ok.ensures.happens).falls refl c.requires.fits.2
