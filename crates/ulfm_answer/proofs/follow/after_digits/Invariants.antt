use Rattle.std.proofs.Common.{◌≡◌, ◌++◌, List, ℕ, drop}
use Rattle.hex.specs.Hex.{encode_lower}
use Rattle.ulfm_answer.specs.inside.Follow.{goes_on}
use Rattle.ulfm_answer.proofs.follow.after_digits.Given as goal

abbrev pub invariant-loop-byte : goal.invariant-loop-byte
invariant-loop-byte l = (more : List ℕ) → goes_on l.words (encode_lower (drop l.byte-index l.body) ++ more) ≡ goes_on l.fn.words (encode_lower l.body ++ more)
