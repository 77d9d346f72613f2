use Rattle.std.proofs.Common.{◌≡◌, drop, map}
use Rattle.ulfm_outcomes_list.specs.Listed.{step_view}
use Rattle.ulfm_outcomes_reply.specs.Drawn.{first_left}
use Rattle.ulfm_outcomes_reply.proofs.drawing.first_left.Given as goal

abbrev pub invariant-loop-at : goal.invariant-loop-at
invariant-loop-at l = first_left l.found (map step_view (drop l.at-index l.steps)) ≡ first_left l.found (map step_view l.steps)
