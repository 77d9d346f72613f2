use Rattle.std.proofs.Common.{sym, ap, ◌∙◌}
use Rattle.ulfm_reader.proofs.Asking.{words-on, words-end, words-done}
use Rattle.ulfm_reader.specs.JobText.{in_step}
use Rattle.ulfm_reader.specs.inside.Reading.{may_begin}
use Rattle.ulfm_reader.proofs.clauses.all_words.Goals as goal

pub returns-in-Err : goal.returns-in-Err
returns-in-Err c = λ _. ap (in_step c.args.place) (sym c.loop-value.invariant ∙ words-end (may_begin c.args.is_condition c.args.asked.now) c.loop-value.texts.items c.args.values.now _ c.in-Err.fault c.loop-value.value-index c.loop-value-test.true c.value-item.is c.in-Err.ensures)

pub loop-value-preserved : goal.loop-value-preserved
loop-value-preserved c = rw (c.in_ok-push.ensures.items, c.in_ok-words.ensures.whole) (sym (words-on (may_begin c.args.is_condition c.args.asked.now) c.loop-value.texts.items c.args.values.now _ c.in-Ok.words.now c.loop-value.value-index c.loop-value-test.true c.value-item.is c.in-Ok.ensures) ∙ c.loop-value.invariant)

pub returns : goal.returns
returns c = ap (in_step c.args.place) (sym c.loop-value.invariant ∙ words-done (may_begin c.args.is_condition c.args.asked.now) c.loop-value.texts.items c.args.values.now c.loop-value.value-index c.loop-value-test.false)
