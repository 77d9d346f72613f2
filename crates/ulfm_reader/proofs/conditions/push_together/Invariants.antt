use Rattle.std.proofs.Common.{◌≡◌, drop}
use Rattle.ulfm_reader.proofs.Common.{items_view}
use Rattle.ulfm_reader.specs.Reacting.{condition_onto, tables_onto}
use Rattle.ulfm_reader.specs.inside.Reading.{asker_view}
use Rattle.ulfm_reader.proofs.conditions.push_together.Given as goal

abbrev pub invariant-loop-value : goal.invariant-loop-value
invariant-loop-value l =
    tables_onto (λ k. condition_onto (asker_view l.fn.asker) l.fn.alternative) l.value-index l.conditions.items (items_view (drop l.value-index l.fn.values))
    ≡ tables_onto (λ k. condition_onto (asker_view l.fn.asker) l.fn.alternative) 0 l.fn.conditions.items (items_view l.fn.values)
