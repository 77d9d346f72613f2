use Rattle.std.proofs.Common.{arith, sym, subst, List, vec_len}
use Rattle.ulfm_carrier.specs.declared.lane_ends.LaneEnds.{LaneEnds}
use Rattle.ulfm_carrier.specs.Family.{AllFresh}
use Rattle.ulfm_base.specs.Lists.{InPlace}
use Rattle.ulfm_carrier.specs.Lanes.{lane_pushed, lane_taken, IsReady}
use Rattle.ulfm_run.proofs.Mapped.{swapped_apart, swapped_fresh}
use Rattle.ulfm_tests.proofs.run.misfits.backwards.Goals as goal

pub returns-clause-out_of_place : goal.returns-clause-out_of_place
returns-clause-out_of_place c =
    let P : List LaneEnds → Type 0 = InPlace (λ e. e.me.number) in
    λ placed. swapped_apart (λ (e : LaneEnds). e.me.number) c.in_ok-ends.ends.items (omega (arith, c.in_ok-ends.ensures.len, c.in_ok-ends.ends.ok)) c.in_ok-ends.ensures.places (subst P c.swap.ensures.items placed)

pub returns-clause-fresh : goal.returns-clause-fresh
returns-clause-fresh c =
    let P : List LaneEnds → Type 0 = AllFresh (λ e. vec_len e.outs) lane_pushed lane_taken IsReady in
    subst P (sym c.swap.ensures.items) (swapped_fresh (λ (e : LaneEnds). vec_len e.outs) lane_pushed lane_taken IsReady c.in_ok-ends.ends.items (omega (arith, c.in_ok-ends.ensures.len, c.in_ok-ends.ends.ok)) c.in_ok-ends.ensures.fresh)
