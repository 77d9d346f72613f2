use Rattle.std.proofs.Common.{◌≡◌, ◌++◌, map}
use Rattle.std.specs.Vec.Iter.{into_iter_items}
use Rattle.ulfm_outcomes_list.specs.Listed.{outcome_view}
use Rattle.ulfm_outcomes_list.specs.List.{placed}
use Rattle.ulfm_outcomes_list.proofs.list_of_places.placed_answers.Given as goal

abbrev pub invariant-loop-told : goal.invariant-loop-told
invariant-loop-told l =
    (l.yielded ++ into_iter_items l.told-iterator ≡ into_iter_items l.initial.told-iterator) × (map outcome_view l.placeds.items ≡ map (placed l.job l.listed l.rank l.k) l.yielded)
