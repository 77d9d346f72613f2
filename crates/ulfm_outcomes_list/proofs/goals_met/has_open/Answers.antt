use Rattle.std.proofs.Common.{rules, sym}
use Rattle.std.specs.List.{list_any}
use Rattle.ulfm_outcomes_list.specs.Goals.{tells_open}
use Rattle.ulfm_outcomes_list.proofs.Asked.{open_here}
use Rattle.ulfm_outcomes_list.proofs.goals_met.has_open.Goals as goal

pub returns-then-tells_open : goal.returns-then-tells_open
returns-then-tells_open c =
    open_here c.args.found.now c.loop-place.place c.in-Some.row.now (list_any (tells_open c.args.one.now) c.args.found.now) (sym c.in-Some.ensures) c.args.one.now c.loop-place.invariant (search rules)
