use Rattle.std.proofs.Common.{refl, sym, ap, ◌∙◌, arith}
use Rattle.std.proofs.lemmas.Result.{err_from_is_err_and}
use Rattle.ulfm_reader.proofs.Asking.{tables-done, tables-on, tables-end, tables-none}
use Rattle.ulfm_reader.specs.JobText.{in_step}
use Rattle.ulfm_reader.specs.Reacting.{alternative_onto}
use Rattle.ulfm_reader.specs.inside.Reading.{asker_view}
use Rattle.ulfm_reader.proofs.conditions.push_alternatives.Goals as goal

pub returns-in_err-push_alternative-in-Some : goal.returns-in_err-push_alternative-in-Some
returns-in_err-push_alternative-in-Some c =
    let p = err_from_is_err_and c.from_residual.result c.from_residual.ensures.1 in
    rw (p.1, p.2) (λ no_memory. ap (in_step c.args.asker.now.place) (sym c.loop-value.invariant.1) ∙ tables-end (alternative_onto (asker_view c.args.asker.now)) c.loop-value.alternative c.loop-value.conditions.items c.args.values.now _ _ _ c.args.asker.now.place c.loop-value.value-index c.loop-value-test.true c.value-item.is c.in-Some.ensures (c.in_err-push_alternative-in-Some.ensures no_memory))

pub returns-in-None : goal.returns-in-None
returns-in-None c = λ _. ap (in_step c.args.asker.now.place) (sym c.loop-value.invariant.1) ∙ tables-none (alternative_onto (asker_view c.args.asker.now)) c.loop-value.alternative c.loop-value.conditions.items c.args.values.now _ c.args.asker.now.place c.loop-value.value-index refl c.loop-value-test.true c.value-item.is c.in-None.ensures

pub loop-value-preserved : goal.loop-value-preserved
loop-value-preserved c = (omega (arith, c.loop-value.invariant.0), sym (tables-on (alternative_onto (asker_view c.args.asker.now)) c.loop-value.alternative c.loop-value.conditions.items _ c.args.values.now _ _ c.args.asker.now.place c.loop-value.value-index c.loop-value-test.true c.value-item.is c.in-Some.ensures c.in_ok-push_alternative-in-Some.ensures) ∙ c.loop-value.invariant.1)

pub returns : goal.returns
returns c = ap (in_step c.args.asker.now.place) (sym c.loop-value.invariant.1 ∙ tables-done (alternative_onto (asker_view c.args.asker.now)) c.loop-value.alternative c.loop-value.conditions.items c.args.values.now c.loop-value.value-index c.loop-value-test.false)

pub overflow_add-alternative : goal.overflow_add-alternative
overflow_add-alternative c = omega (arith, c.loop-value.invariant.0, c.loop-value-test.true, c.requires)
