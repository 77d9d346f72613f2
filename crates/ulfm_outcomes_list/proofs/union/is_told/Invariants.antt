use Rattle.std.proofs.Common.{◌≡◌, drop}
use Rattle.ulfm_outcomes_list.specs.Union.{is_told}
use Rattle.ulfm_outcomes_list.proofs.union.is_told.Given as goal

abbrev pub invariant-loop-place : goal.invariant-loop-place
invariant-loop-place l = is_told (drop l.place l.found) l.rank l.k l.code ≡ is_told l.found l.rank l.k l.code
