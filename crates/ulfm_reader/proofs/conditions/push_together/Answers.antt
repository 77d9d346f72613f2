use Rattle.std.proofs.Common.{ℕ, refl, sym, ap, ◌∙◌}
use Rattle.std.proofs.lemmas.Result.{err_from_is_err_and}
use Rattle.ulfm_reader.proofs.Asking.{tables-done, tables-on, tables-end, tables-none}
use Rattle.ulfm_reader.specs.JobText.{in_step}
use Rattle.ulfm_reader.specs.Reacting.{condition_onto}
use Rattle.ulfm_reader.specs.inside.Reading.{asker_view}
use Rattle.ulfm_reader.proofs.conditions.push_together.Goals as goal

pub returns-in_err-push_condition-in-Some : goal.returns-in_err-push_condition-in-Some
returns-in_err-push_condition-in-Some c =
    let p = err_from_is_err_and c.from_residual.result c.from_residual.ensures.1 in
    rw (p.1, p.2) (λ no_memory. ap (in_step c.args.asker.now.place) (sym c.loop-value.invariant) ∙ tables-end (λ (k : ℕ). condition_onto (asker_view c.args.asker.now) c.args.alternative) c.loop-value.value-index c.loop-value.conditions.items c.args.values.now _ _ _ c.args.asker.now.place c.loop-value.value-index c.loop-value-test.true c.value-item.is c.in-Some.ensures (c.in_err-push_condition-in-Some.ensures no_memory))

pub returns-in-None : goal.returns-in-None
returns-in-None c = λ _. ap (in_step c.args.asker.now.place) (sym c.loop-value.invariant) ∙ tables-none (λ (k : ℕ). condition_onto (asker_view c.args.asker.now) c.args.alternative) c.loop-value.value-index c.loop-value.conditions.items c.args.values.now _ c.args.asker.now.place c.loop-value.value-index refl c.loop-value-test.true c.value-item.is c.in-None.ensures

pub loop-value-preserved : goal.loop-value-preserved
loop-value-preserved c = sym (tables-on (λ (k : ℕ). condition_onto (asker_view c.args.asker.now) c.args.alternative) c.loop-value.value-index c.loop-value.conditions.items _ c.args.values.now _ _ c.args.asker.now.place c.loop-value.value-index c.loop-value-test.true c.value-item.is c.in-Some.ensures c.in_ok-push_condition-in-Some.ensures) ∙ c.loop-value.invariant

pub returns : goal.returns
returns c = ap (in_step c.args.asker.now.place) (sym c.loop-value.invariant ∙ tables-done (λ (k : ℕ). condition_onto (asker_view c.args.asker.now) c.args.alternative) c.loop-value.value-index c.loop-value.conditions.items c.args.values.now c.loop-value.value-index c.loop-value-test.false)
