use Rattle.std.proofs.Common.{rules, arith, ◌≡◌, Some, map, ap, ◌∙◌}
use Rattle.std.proofs.lemmas.Grind.{common_steps}
use Rattle.toml.proofs.Views.{view-Array}
use Rattle.ulfm_reader.proofs.WrittenOut.{view}
use Rattle.ulfm_reader.proofs.Blocks.{if-array}
use Rattle.ulfm_reader.specs.Iterations.{referred_condition}
use Rattle.ulfm_reader.proofs.conditions_written_out.referred_if.Goals as goal

pub returns-in_ok-found-in-Some : goal.returns-in_ok-found-in-Some
returns-in_ok-found-in-Some c =
    let vs = c.in-Some.conditions.now.items in
    let block = map view c.args.block.now in
    let same : map view c.in_ok-found-in-Some.found.items ≡ map (referred_condition block c.args.rank c.args.i) (map view c.as_slice.result.now) = first_of (search rules, cc, grind (arith, common_steps)) in
    ap Some (view-Array c.in_ok-found-in-Some.found) ∙ if-array block c.args.rank c.args.i (view c.args.value.now) vs c.in_ok-found-in-Some.found.items c.in-Some.ensures (same ∙ ap (λ values. map (referred_condition block c.args.rank c.args.i) (map view values)) c.as_slice.ensures.value)
