use Rattle.std.proofs.Common.{◌≡◌, ◌++◌, drop}
use Rattle.ulfm_outcomes_list.specs.Union.{places_with}
use Rattle.ulfm_outcomes_list.proofs.union.places_with.Given as goal

abbrev pub invariant-loop-one : goal.invariant-loop-one
invariant-loop-one l = l.places.items ++ places_with l.job (drop l.one-index l.listed) l.rank l.k l.code ≡ places_with l.job l.listed l.rank l.k l.code
