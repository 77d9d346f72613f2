use Rattle.std.proofs.Common.{ℕ}
use Rattle.ulfm_match.proofs.Common.{SweepsFor, numbers_at}
use Rattle.ulfm_match.proofs.buckets.forget_gone.Given as goal

abbrev pub invariant-loop-i : goal.invariant-loop-i
invariant-loop-i g l = (k : ℕ) → SweepsFor l.live (numbers_at l.fn.buckets k) (numbers_at l.buckets k)
