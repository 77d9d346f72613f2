use Rattle.std.proofs.Common.{◌≡◌, ◌<◌, ℕ, []}
use Rattle.ulfm_run.proofs.Common.{outbox}
use Rattle.ulfm_run.proofs.at_work.AtWork.has_pushed_all.Given as goal

abbrev pub invariant-loop-dest : goal.invariant-loop-dest
invariant-loop-dest g l = (d : ℕ) → d < l.dest → outbox l.self.worker.player.player.rank d ≡ []
