use Rattle.std.proofs.Common.{◌≡◌, ℕ, ◌<◌}
use Rattle.ulfm_c.specs.Turning.{GoesOn, IsStuck}
use Rattle.ulfm_c.proofs.process.Process.push.Given as goal

abbrev pub invariant-loop-dest : goal.invariant-loop-dest
invariant-loop-dest l = GoesOn l.fn.self.view l.self.view l.moved × ((k : ℕ) → k < l.dest → IsStuck l.self.view k) × (l.self.ready ≡ l.fn.self.ready)
