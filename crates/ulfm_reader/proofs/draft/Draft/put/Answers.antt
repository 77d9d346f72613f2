use Rattle.std.proofs.Common.{List, length, refl, sym, ap, ◌∙◌, arith}
use Rattle.std.proofs.lemmas.Result.{err_from_is_err_and}
use Rattle.ulfm_reader.proofs.Asking.{in_step-ok}
use Rattle.ulfm_reader.proofs.Drafting.{short, front, conditions-fault, expected-fault, naming-fault, one-more, proviso-fault}
use Rattle.ulfm_reader.proofs.Common.{Name}
use Rattle.ulfm_reader.specs.JobText.{in_step}
use Rattle.ulfm_reader.specs.inside.Reading.{name_behind}
use Rattle.ulfm_reader.specs.Plan.{order_of}
use Rattle.ulfm_reader.proofs.draft.Draft.put.Goals as goal

pub overflow_cast-at : goal.overflow_cast-at
overflow_cast-at c = omega (arith, short c.args.self.now c.args.placed.rank c.index.result.now c.as_slice-script.result.now c.requires.inside c.index.ensures c.as_slice-script.ensures.value c.requires.few)

pub returns-in_err-push_conditions-clause-exact : goal.returns-in_err-push_conditions-clause-exact
returns-in_err-push_conditions-clause-exact c =
    let p = err_from_is_err_and c.from_residual-in_err-push_conditions.result c.from_residual-in_err-push_conditions.ensures.1 in
    let h = front c.args.self.now c.args.placed.rank _ c.index.result.now c.as_slice-script.result.now c.as_slice-names.result.now c.requires.inside c.index.ensures c.as_slice-script.ensures.value refl c.as_slice-names.ensures.value in
    rw (p.1, p.2, ← c.in_ok-step.ensures) (λ no_memory. conditions-fault c.args.self.now c.args.placed.rank _ c.args.place c.as_slice-script.result.now c.as_slice-names.result.now _ (order_of c.in_ok-step.step) _ _ h (c.in-Ok.ensures _) (c.in_err-push_conditions.ensures no_memory))

pub returns-in_err-push_step_proviso-clause-exact : goal.returns-in_err-push_step_proviso-clause-exact
returns-in_err-push_step_proviso-clause-exact c =
    let p = err_from_is_err_and c.from_residual-in_err-push_step_proviso.result c.from_residual-in_err-push_step_proviso.ensures.1 in
    let h = front c.args.self.now c.args.placed.rank _ c.index.result.now c.as_slice-script.result.now c.as_slice-names.result.now c.requires.inside c.index.ensures c.as_slice-script.ensures.value refl c.as_slice-names.ensures.value in
    rw (p.1, p.2, ← c.in_ok-step.ensures) (λ no_memory. proviso-fault c.args.self.now c.args.placed.rank _ c.args.place c.as_slice-script.result.now c.as_slice-names.result.now _ c.push_conditions.new.conditions.items (order_of c.in_ok-step.step) _ _ h (c.in-Ok.ensures _) (in_step-ok c.args.place _ _ c.in_ok-push_conditions.ensures) (c.in_err-push_step_proviso.ensures no_memory))

pub returns-in_err-push_expected-clause-exact : goal.returns-in_err-push_expected-clause-exact
returns-in_err-push_expected-clause-exact c =
    let p = err_from_is_err_and c.from_residual-in_err-push_expected.result c.from_residual-in_err-push_expected.ensures.1 in
    let h = front c.args.self.now c.args.placed.rank _ c.index.result.now c.as_slice-script.result.now c.as_slice-names.result.now c.requires.inside c.index.ensures c.as_slice-script.ensures.value refl c.as_slice-names.ensures.value in
    rw (p.1, p.2, ← c.in_ok-step.ensures) (λ no_memory. expected-fault c.args.self.now c.args.placed.rank _ c.args.place c.as_slice-script.result.now c.as_slice-names.result.now _ c.push_conditions.new.conditions.items c.push_step_proviso.new.provisos.items (order_of c.in_ok-step.step) _ _ h (c.in-Ok.ensures _) (in_step-ok c.args.place _ _ c.in_ok-push_conditions.ensures) (in_step-ok c.args.place _ _ c.in_ok-push_step_proviso.ensures) (c.in_err-push_expected.ensures no_memory))

pub returns-in_err-push_naming-clause-exact : goal.returns-in_err-push_naming-clause-exact
returns-in_err-push_naming-clause-exact c =
    let p = err_from_is_err_and c.from_residual-in_err-push_naming.result c.from_residual-in_err-push_naming.ensures.1 in
    let h = front c.args.self.now c.args.placed.rank _ c.index.result.now c.as_slice-script.result.now c.as_slice-names.result.now c.requires.inside c.index.ensures c.as_slice-script.ensures.value refl c.as_slice-names.ensures.value in
    rw (p.1, p.2, ← c.in_ok-step.ensures) (λ no_memory. naming-fault c.args.self.now c.args.placed.rank _ c.args.place c.as_slice-script.result.now c.as_slice-names.result.now _ c.push_conditions.new.conditions.items c.push_step_proviso.new.provisos.items c.push_expected.new.clauses.items (order_of c.in_ok-step.step) _ _ h (c.in-Ok.ensures _) (in_step-ok c.args.place _ _ c.in_ok-push_conditions.ensures) (in_step-ok c.args.place _ _ c.in_ok-push_step_proviso.ensures) (in_step-ok c.args.place _ _ c.in_ok-push_expected.ensures) (c.in_err-push_naming.ensures no_memory))

pub returns-clause-exact : goal.returns-clause-exact
returns-clause-exact c =
    let at = length c.as_slice-script.result.now in
    let h = front c.args.self.now c.args.placed.rank at c.index.result.now c.as_slice-script.result.now c.as_slice-names.result.now c.requires.inside c.index.ensures c.as_slice-script.ensures.value refl c.as_slice-names.ensures.value in
    let named = c.in_ok-push_name.ensures.pushed ∙ ap (λ (names : List Name). name_behind names c.args.placed.rank at c.in-Ok.name) (sym c.as_slice-names.ensures.value) in
    rw (← c.in_ok-step.ensures) (ap (in_step c.args.place) (one-more c.args.self.now (record { scripts = c.push_step.new.scripts; names = c.push_name.new.names; filed = c.push.new.self; conditions = c.push_conditions.new.conditions; expected = c.push_expected.new.clauses; namings = c.push_naming.new.namings; provisos = c.push_step_proviso.new.provisos }) c.args.placed.rank at c.args.place c.as_slice-script.result.now c.as_slice-names.result.now _ _ _ _ _ c.in_ok-step.step _ h c.requires.inside (c.in-Ok.ensures at) (in_step-ok c.args.place _ _ c.in_ok-push_conditions.ensures) (in_step-ok c.args.place _ _ c.in_ok-push_step_proviso.ensures) (in_step-ok c.args.place _ _ c.in_ok-push_expected.ensures) (in_step-ok c.args.place _ _ c.in_ok-push_naming.ensures) c.in_ok-push_step.ensures.pushed named c.in_ok-push.ensures.items refl refl refl refl))
