use Rattle.std.proofs.Common.{◌≡◌, drop}
use Rattle.std.specs.List.{list_any}
use Rattle.ulfm_outcomes_list.specs.Goals.{tells_open}
use Rattle.ulfm_outcomes_list.proofs.goals_met.has_open.Given as goal

abbrev pub invariant-loop-place : goal.invariant-loop-place
invariant-loop-place l = list_any (tells_open l.one) (drop l.place l.found) ≡ list_any (tells_open l.one) l.found
