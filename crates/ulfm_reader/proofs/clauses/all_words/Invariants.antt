use Rattle.std.proofs.Common.{◌≡◌, [], drop}
use Rattle.ulfm_reader.proofs.Common.{items_view}
use Rattle.ulfm_reader.specs.Reacting.{words_onto}
use Rattle.ulfm_reader.specs.inside.Reading.{may_begin}
use Rattle.ulfm_reader.proofs.clauses.all_words.Given as goal

abbrev pub invariant-loop-value : goal.invariant-loop-value
invariant-loop-value l =
    words_onto (may_begin l.fn.is_condition l.fn.asked) l.texts.items (items_view (drop l.value-index l.fn.values)) ≡ words_onto (may_begin l.fn.is_condition l.fn.asked) [] (items_view l.fn.values)
