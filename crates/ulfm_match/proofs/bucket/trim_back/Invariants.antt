use Rattle.ulfm_match.proofs.Common.{SweepsFor}
use Rattle.ulfm_match.proofs.bucket.trim_back.Given as goal

abbrev pub invariant-loop-k : goal.invariant-loop-k
invariant-loop-k g l = SweepsFor l.live l.fn.numbers.items l.numbers.items
