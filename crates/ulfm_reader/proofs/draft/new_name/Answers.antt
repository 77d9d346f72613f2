use Rattle.std.proofs.Common.{refl, sym, ◌∙◌}
use Rattle.ulfm_reader.proofs.Labels.{labelled}
use Rattle.ulfm_reader.proofs.draft.new_name.Goals as goal

pub returns-in-Some-as_str : goal.returns-in-Some-as_str
returns-in-Some-as_str c = λ at.
    let new = sym c.is_new_name.ensures ∙ c.if-is_new_name.true in
    let label = c.new.ensures ∙ labelled c.args.names.now c.args.rank c.in-Some-as_str.text.now new in
    rw (label, ← c.in-Some.ensures, ← c.in-Some-as_str.ensures, new) refl
