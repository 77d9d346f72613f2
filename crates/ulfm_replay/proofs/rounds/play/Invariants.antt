use Rattle.std.proofs.Common.{◌≡◌}
use Rattle.ulfm_world.proofs.Common.{IsUnderway, measure}
use Rattle.ulfm_replay.proofs.rounds.play.Given as goal

abbrev pub invariant-loop-rounds : goal.invariant-loop-rounds
invariant-loop-rounds l = (l.rounds.job.now ≡ l.job) × IsUnderway l.job l.rounds.world

abbrev pub decreases-loop-rounds : goal.decreases-loop-rounds
decreases-loop-rounds l = measure l.job l.rounds.world
