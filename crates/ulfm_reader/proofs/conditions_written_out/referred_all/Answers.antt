use Rattle.std.proofs.Common.{rules, arith, ◌≡◌, Some, map, ap, sym, ◌∙◌}
use Rattle.std.proofs.lemmas.Grind.{common_steps}
use Rattle.toml.proofs.Views.{view-Array}
use Rattle.toml.specs.Data.{array}
use Rattle.toml.specs.View.{items_of}
use Rattle.ulfm_reader.proofs.WrittenOut.{view}
use Rattle.ulfm_reader.proofs.Blocks.{items_of-view}
use Rattle.ulfm_reader.specs.Iterations.{referred_all, referred_table}
use Rattle.ulfm_reader.proofs.conditions_written_out.referred_all.Goals as goal

pub returns-in_ok-found-in-Some : goal.returns-in_ok-found-in-Some
returns-in_ok-found-in-Some c =
    let block = map view c.args.block.now in
    let same : map view c.in_ok-found-in-Some.found.items ≡ map (referred_table block c.args.rank c.args.i) (map view c.in-Some.values.now) = first_of (search rules, cc, grind (arith, common_steps)) in
    ap Some (view-Array c.in_ok-found-in-Some.found ∙ ap array (sym (items_of-view c.in_ok-found-in-Some.found.items) ∙ ap items_of same)) ∙ ap (referred_all block c.args.rank c.args.i) c.in-Some.ensures
