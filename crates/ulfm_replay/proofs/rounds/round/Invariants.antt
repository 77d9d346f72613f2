use Rattle.std.proofs.Common.{◌≡◌, false, ℕ, ◌<◌}
use Rattle.ulfm_world.proofs.Common.{Moves, IsStuck}
use Rattle.ulfm_replay.proofs.rounds.round.Given as goal

abbrev pub invariant-loop-r : goal.invariant-loop-r
invariant-loop-r l = (l.rounds.job.now ≡ l.job) × Moves l.job l.fn.rounds.world l.rounds.world l.moved × (l.moved ≡ false → (k : ℕ) → k < l.r → IsStuck l.job l.rounds.world k)
