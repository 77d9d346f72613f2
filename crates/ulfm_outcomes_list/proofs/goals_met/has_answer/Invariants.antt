use Rattle.std.proofs.Common.{◌≡◌, drop}
use Rattle.std.specs.List.{list_any}
use Rattle.ulfm_outcomes_list.specs.Goals.{tells}
use Rattle.ulfm_outcomes_list.proofs.goals_met.has_answer.Given as goal

abbrev pub invariant-loop-place : goal.invariant-loop-place
invariant-loop-place l = list_any (tells l.clause) (drop l.place l.found) ≡ list_any (tells l.clause) l.found
