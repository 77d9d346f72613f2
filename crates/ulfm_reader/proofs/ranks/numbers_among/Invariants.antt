use Rattle.std.proofs.Common.{◌≡◌, take}
use Rattle.std.specs.List.{filter_map}
use Rattle.toml.specs.Data.{as_integer}
use Rattle.ulfm_reader.proofs.WrittenOut.{Value, view}
use Rattle.ulfm_reader.proofs.ranks.numbers_among.Given as goal

abbrev pub invariant-loop-value : goal.invariant-loop-value
invariant-loop-value l = l.found.items ≡ filter_map (λ (v : Value). as_integer (view v)) (take l.value-index l.values)
