use Rattle.std.proofs.Common.{◌++◌, ◌+◌, List, ℕ, drop, sym, ◌∙◌, arith}
use Rattle.std.proofs.lemmas.List.{at_drop_all}
use Rattle.ulfm_answer.proofs.Following.{byte-on}
use Rattle.ulfm_answer.specs.inside.Follow.{goes_on}
use Rattle.ulfm_answer.proofs.follow.after.Goals as goal

pub loop-byte-preserved : goal.loop-byte-preserved
loop-byte-preserved c = λ more.
    c.after_byte-words.ensures (drop (c.loop-byte.byte-index + 1) c.args.text.now ++ more)
    ∙ byte-on c.loop-byte.words c.args.text.now c.loop-byte.byte-index 0 more c.loop-byte-test.true
    ∙ c.loop-byte.invariant more

pub returns : goal.returns
returns c = λ more. sym (at_drop_all (λ (xs : List ℕ). goes_on c.loop-byte.words (xs ++ more)) c.args.text.now c.loop-byte.byte-index (omega (arith, c.loop-byte-test.false))) ∙ c.loop-byte.invariant more
