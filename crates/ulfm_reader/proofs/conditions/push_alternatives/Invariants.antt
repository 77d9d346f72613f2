use Rattle.std.proofs.Common.{◌≡◌, drop}
use Rattle.ulfm_reader.proofs.Common.{items_view}
use Rattle.ulfm_reader.specs.Reacting.{alternative_onto, tables_onto}
use Rattle.ulfm_reader.specs.inside.Reading.{asker_view}
use Rattle.ulfm_reader.proofs.conditions.push_alternatives.Given as goal

abbrev pub invariant-loop-value : goal.invariant-loop-value
invariant-loop-value l =
    (l.alternative ≡ l.value-index)
    × (tables_onto (alternative_onto (asker_view l.fn.asker)) l.alternative l.conditions.items (items_view (drop l.value-index l.fn.values))
    ≡ tables_onto (alternative_onto (asker_view l.fn.asker)) 0 l.fn.conditions.items (items_view l.fn.values))
