use Rattle.std.proofs.Common.{◌≡◌, Some, map, sym, ap, ◌∙◌}
use Rattle.std.proofs.lemmas.Result.{IfOk-weaker}
use Rattle.toml.specs.Data.{as_array}
use Rattle.ulfm_reader.proofs.WrittenOut.{items_view, view}
use Rattle.ulfm_reader.proofs.Values.{several-array}
use Rattle.ulfm_reader.specs.Ranks.{numbers}
use Rattle.ulfm_reader.proofs.ranks.several.Goals as goal

pub returns-in-Some : goal.returns-in-Some
returns-in-Some c =
    let vs = c.in-Some.values.now.items in
    let is : as_array (view c.args.value.now) ≡ Some (items_view vs) = sym c.in-Some.ensures in
    IfOk-weaker c.numbers.result _ _ (λ found h. h ∙ ap (λ values. numbers (map view values)) c.as_slice.ensures.value ∙ sym (several-array c.args.ranks (view c.args.value.now) vs is)) c.numbers.ensures
