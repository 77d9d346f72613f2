use Rattle.std.proofs.Common.{rules, sym}
use Rattle.std.specs.List.{list_any}
use Rattle.ulfm_outcomes_list.specs.Goals.{tells}
use Rattle.ulfm_outcomes_list.proofs.Asked.{tells_here}
use Rattle.ulfm_outcomes_list.proofs.goals_met.has_answer.Goals as goal

pub returns-then-tells : goal.returns-then-tells
returns-then-tells c =
    tells_here c.args.found.now c.loop-place.place c.in-Some.row.now (list_any (tells c.args.clause.now) c.args.found.now) (sym c.in-Some.ensures) c.args.clause.now c.loop-place.invariant (search rules)
