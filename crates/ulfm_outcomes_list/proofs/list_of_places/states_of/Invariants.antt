use Rattle.std.proofs.Common.{◌≡◌, ◌+◌, drop}
use Rattle.std.specs.List.{fold}
use Rattle.ulfm_outcomes_list.specs.List.{states_of}
use Rattle.ulfm_outcomes_list.specs.declared.place_list.Listed.{Listed}
use Rattle.ulfm_outcomes_list.proofs.list_of_places.states_of.Given as goal

abbrev pub invariant-loop-one : goal.invariant-loop-one
invariant-loop-one l = fold (λ sum (one : Listed). sum + one.states) l.states (drop l.one-index l.listed) ≡ states_of l.listed
