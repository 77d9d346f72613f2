use Rattle.std.proofs.Common.{sym, ◌∙◌}
use Rattle.ulfm_reader.proofs.Asking.{ends-early}
use Rattle.ulfm_reader.proofs.beginnings.begins.Goals as goal

pub returns-in_default-2 : goal.returns-in_default-2
returns-in_default-2 c = sym (c.loop-word.invariant ∙ ends-early c.args.words.now c.loop-word.left.now c.loop-word.word-index c.loop-word-test.true (rw c.in_default.is at c.split_first.ensures.cases))
