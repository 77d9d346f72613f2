use Rattle.std.proofs.Common.{◌∙◌, suc, false, List, ap, sym, subst, arith, slice_get, All, map}
use Rattle.std.proofs.lemmas.List.Elements.{All-push}
use Rattle.ulfm_board.specs.declared.seat.Seat.{Seat}
use Rattle.ulfm_carrier.proofs.Handed.{handed}
use Rattle.ulfm_carrier.specs.declared.lane_ends.LaneEnds.{LaneEnds}
use Rattle.ulfm_log.specs.State.{start_state_with}
use Rattle.ulfm_c.proofs.Seated.{in_seat}
use Rattle.ulfm_c.specs.Making.{StartsAtEnd, end_of, seat_of}
use Rattle.ulfm_c.proofs.making.seated.Goals as goal

pub start-requires : goal.start-requires
start-requires c = record { fresh = c.loop-end.invariant.fresh 0 c.in-Some.end (ap (λ l. slice_get l 0) c.in-Some.ensures.steps.0) }

pub loop-end-preserved : goal.loop-end-preserved
loop-end-preserved c =
    let ends = c.in-Some.ensures.steps in let was = c.loop-end.invariant in
    let more = c.push_reserved.ensures.items in let made = c.in_ok-process.ensures in record {
      room = omega (arith, c.push_reserved.ensures.len, c.push_reserved.ensures.capacity, ends.1, was.room);
      enough = omega (arith, ends.1, was.enough, c.in-Some-next.ensures.len);
      ends = handed end_of c.loop-end.all.items c.in_ok-process.process was.ends ends.0 more made.end;
      fresh = λ k e here. was.fresh (suc k) e (ap (λ l. slice_get l (suc k)) ends.0 ∙ here);
      seats = handed seat_of c.loop-end.all.items c.in_ok-process.process was.seats (ap (λ (l : List Seat). map in_seat l) c.in-Some-next.ensures.items) more (λ i. (made.seat.0 i, made.seat.1 i));
      start = subst (All (StartsAtEnd c.args.ranks)) (sym more)
          (All-push (StartsAtEnd c.args.ranks) c.loop-end.all.items c.in_ok-process.process was.start (made.started ∙ ap (λ (e : LaneEnds). start_state_with false e.me.number c.args.ranks) (sym made.end)));
    }

pub returns-clause-seats : goal.returns-clause-seats
returns-clause-seats c = (_, c.loop-end.invariant.seats)
