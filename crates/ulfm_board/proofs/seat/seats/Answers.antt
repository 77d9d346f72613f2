use Rattle.std.proofs.Common.{◌≡◌, ◌∙◌, ap, Some, rules, ◌++◌, ◌∷◌, [], sym, subst, List, All}
use Rattle.std.proofs.lemmas.List.Elements.{All-push}
use Rattle.std.specs.Arc.{arc_value}
use Rattle.ulfm_board.specs.declared.seat.Seat.{Seat}
use Rattle.ulfm_board.specs.Known.{nothing_known}
use Rattle.ulfm_board.specs.inside.Trail.{known_of, names_of}
use Rattle.ulfm_board.proofs.seat.seats.Goals as goal

-- one more that is as all others
pushed : (P : Seat → Type 0) (xs ys : List Seat) (seat : Seat) → ys ≡ xs ++ seat ∷ [] → All P xs → P seat → All P ys
pushed P xs ys seat more all here = subst (λ (l : List Seat). All P l) (sym more) (All-push P xs seat all here)

pub loop-preserved : goal.loop-preserved
loop-preserved c =
    let shared : arc_value c.in_ok-try_clone.field-0 ≡ arc_value c.in_ok-board.board = search rules in
    let board = c.in_ok-new_seat.ensures.board ∙ ap (λ v. Some (names_of v.items)) shared in (
      search rules,
      search rules,
      pushed (λ (s : Seat). Some (names_of (arc_value s.register).items) ≡ Some (names_of (arc_value c.in_ok-board.board).items)) c.loop.all.items _ c.in_ok-new_seat.field-0 c.push_reserved.ensures.items c.loop.invariant.2 board,
      pushed (λ (s : Seat). known_of s.trail ≡ nothing_known) c.loop.all.items _ c.in_ok-new_seat.field-0 c.push_reserved.ensures.items c.loop.invariant.3 c.in_ok-new_seat.ensures.nothing_known,
    )

pub returns-clause-one_board : goal.returns-clause-one_board
returns-clause-one_board c = (names_of (arc_value c.in_ok-board.board).items, c.loop.invariant.2)
