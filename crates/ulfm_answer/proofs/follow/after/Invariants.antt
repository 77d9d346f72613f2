use Rattle.std.proofs.Common.{◌≡◌, ◌++◌, List, ℕ, drop}
use Rattle.ulfm_answer.specs.inside.Follow.{goes_on}
use Rattle.ulfm_answer.proofs.follow.after.Given as goal

abbrev pub invariant-loop-byte : goal.invariant-loop-byte
invariant-loop-byte l = (more : List ℕ) → goes_on l.words (drop l.byte-index l.text ++ more) ≡ goes_on l.fn.words (l.text ++ more)
