use Rattle.std.proofs.Common.{◌≡◌, ◌∙◌, ℕ, false, List, Some, ap, sym, subst, arith, length, map}
use Rattle.std.proofs.lemmas.List.{length-map}
use Rattle.std.proofs.lemmas.List.Elements.{All-get_or}
use Rattle.std.proofs.lemmas.Option.{get_or_from_slice_get, slice_get_within}
use Rattle.ulfm_base.proofs.Places.{at_view}
use Rattle.ulfm_base.specs.Lists.{at}
use Rattle.ulfm_board.specs.Known.{nothing_known}
use Rattle.ulfm_carrier.specs.Lanes.{OneCall, lane_name}
use Rattle.ulfm_carrier.specs.declared.lane_ends.LaneEnds.{LaneEnds}
use Rattle.ulfm_log.specs.State.{start_state_with}
use Rattle.ulfm_c.proofs.Seated.{each_of_front, in_seat}
use Rattle.ulfm_c.specs.Making.{StartsAtEnd, end_of, seat_of}
use Rattle.ulfm_c.specs.View.{ReadyView}
use Rattle.ulfm_c.proofs.making.world.Goals as goal

pub returns-clause-world : goal.returns-clause-world
returns-clause-world c =
    let all = c.in_ok-all.all.items in let made = c.in_ok-all.ensures in let ends = c.in_ok-ends.ensures in let seats = c.in_ok-seats.ensures in
    let its_end : (k : ℕ) (p : ReadyView) → at all k p → at c.in_ok-ends.ends.items k p.view.end = λ k p here. subst (λ (l : List LaneEnds). at l k p.view.end) made.ends (at_view end_of all k p here) in
    let S : ReadyView → Type 0 = StartsAtEnd c.args.ranks in record {
      count = omega (arith, length-map all end_of, ap (λ (l : List LaneEnds). length l) made.ends, c.in_ok-ends.ends.ok, ends.len);
      start = λ k p here.
          let started : S p = subst S (get_or_from_slice_get all k p p here) (All-get_or S all k p (slice_get_within all k p here) made.start) in
          let number = ends.places k p.view.end (its_end k p here) in
          started ∙ ap (λ i. start_state_with false i c.args.ranks) number;
      one_call = subst (λ (l : List LaneEnds). OneCall (map lane_name l)) (sym made.ends) ends.family;
      room = λ k d p here few. ends.room k d p.view.end (its_end k p here) few;
      first = λ k p here. ends.first k p.view.end (its_end k p here);
      one_board = (seats.one_board.0, each_of_front seat_of in_seat (λ x. x.0 ≡ Some seats.one_board.0) all c.in_ok-seats.seats.items made.seats.0 made.seats.1 seats.one_board.1);
      none_known = each_of_front seat_of in_seat (λ x. x.1 ≡ nothing_known) all c.in_ok-seats.seats.items made.seats.0 made.seats.1 seats.nothing_known;
    }
