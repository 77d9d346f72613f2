use Rattle.std.proofs.Common.{◌≡◌, ◌<◌, ℕ, [], false}
use Rattle.ulfm_log.specs.Facts.{is_gone}
use Rattle.ulfm_log.specs.State.{outbox}
use Rattle.ulfm_c.proofs.process.Process.has_pushed_all.Given as goal

abbrev pub invariant-loop-dest : goal.invariant-loop-dest
invariant-loop-dest l = (d : ℕ) → d < l.dest → is_gone l.self.view.rank.log d ≡ false → outbox l.self.view.rank d ≡ []
