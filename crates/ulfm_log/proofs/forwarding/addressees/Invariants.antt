use Rattle.std.proofs.Common.{◌≡◌, ◌<◌, ◌≤◌, ℕ, false, ◌==◌, ◌&&◌, not}
use Rattle.ulfm_log.proofs.Common.{has}
use Rattle.ulfm_log.proofs.forwarding.addressees.Given as goal

abbrev pub invariant-loop-number : goal.invariant-loop-number
invariant-loop-number l =
    ((k : ℕ) → k < l.number → has l.addressees k ≡ (not (l.me == k) && not (has l.known k)))
    × ((k : ℕ) → l.number ≤ k → has l.addressees k ≡ false)
