use Rattle.std.proofs.Common.{◌≡◌, false, ℕ, ◌<◌, Some}
use Rattle.ulfm_script.proofs.hands.push_all.Given as goal

abbrev pub invariant-loop-dest : goal.invariant-loop-dest
invariant-loop-dest g l = g.H.Hands.moves l.fn.hands l.hands l.moved × (l.moved ≡ false → (k : ℕ) → k < l.dest → g.H.Hands.stuck l.hands (Some k))
