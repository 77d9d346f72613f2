use Rattle.std.proofs.Common.{rules, arith, ◌≡◌, map, ap, ◌∙◌}
use Rattle.std.proofs.lemmas.Grind.{common_steps}
use Rattle.toml.proofs.Views.{view-Array}
use Rattle.ulfm_reader.proofs.WrittenOut.{view}
use Rattle.ulfm_reader.proofs.Beside.{each-array}
use Rattle.ulfm_reader.specs.Together.{condition_with}
use Rattle.ulfm_reader.proofs.together.conditions_with.Goals as goal

pub returns-in_ok-found-in-Some : goal.returns-in_ok-found-in-Some
returns-in_ok-found-in-Some c =
    let vs = c.in-Some.values.now.items in
    let more = map view c.args.more.now in
    let same : map view c.in_ok-found-in-Some.found.items ≡ map (condition_with more) (map view c.as_slice.result.now) = first_of (search rules, cc, grind (arith, common_steps)) in
    view-Array c.in_ok-found-in-Some.found ∙ each-array more (view c.args.own.now) vs c.in_ok-found-in-Some.found.items c.in-Some.ensures (same ∙ ap (λ values. map (condition_with more) (map view values)) c.as_slice.ensures.value)
