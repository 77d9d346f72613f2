use Rattle.std.proofs.Common.{◌∷◌, ◌++◌, ◌+◌, ◌%◌, List, ℕ, drop, slice_index, sym, ◌∙◌, arith}
use Rattle.std.proofs.lemmas.List.{at_drop_all}
use Rattle.hex.specs.Hex.{encode_lower, encode_with, lower_digits}
use Rattle.ulfm_answer.proofs.Following.{digits-on}
use Rattle.ulfm_answer.specs.inside.Follow.{goes_on}
use Rattle.ulfm_answer.proofs.follow.after_digits.Goals as goal

pub loop-byte-preserved : goal.loop-byte-preserved
loop-byte-preserved c = λ more.
    let rest = encode_lower (drop (c.loop-byte.byte-index + 1) c.args.body.now) ++ more in
    c.after_byte-words-in-loop-byte.ensures rest
    ∙ c.after_byte-words.ensures (slice_index lower_digits (slice_index c.args.body.now c.loop-byte.byte-index % 16) ∷ rest)
    ∙ digits-on c.loop-byte.words c.args.body.now c.loop-byte.byte-index more c.loop-byte-test.true
    ∙ c.loop-byte.invariant more

pub returns : goal.returns
unfolding encode_with
returns c = λ more. sym (at_drop_all (λ (xs : List ℕ). goes_on c.loop-byte.words (encode_lower xs ++ more)) c.args.body.now c.loop-byte.byte-index (omega (arith, c.loop-byte-test.false))) ∙ c.loop-byte.invariant more
