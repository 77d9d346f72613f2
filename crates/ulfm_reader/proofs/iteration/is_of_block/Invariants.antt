use Rattle.std.proofs.Common.{◌≡◌, map, drop}
use Rattle.std.specs.List.{list_any}
use Rattle.toml.specs.Data.{as_table}
use Rattle.ulfm_reader.proofs.WrittenOut.{view}
use Rattle.ulfm_reader.specs.Iterations.{is_named}
use Rattle.ulfm_reader.proofs.iteration.is_of_block.Given as goal

abbrev pub invariant-loop-step : goal.invariant-loop-step
invariant-loop-step l =
    list_any (λ d. is_named l.rank l.name (as_table d)) (map view l.block) ≡ list_any (λ d. is_named l.rank l.name (as_table d)) (map view (drop l.step-index l.block))
