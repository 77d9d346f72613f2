use Rattle.std.proofs.Common.{◌≡◌, ◌≤◌, vec_len, vec_capacity, All, Some}
use Rattle.std.specs.Arc.{arc_value}
use Rattle.ulfm_board.specs.declared.seat.Seat.{Seat}
use Rattle.ulfm_board.specs.Known.{nothing_known}
use Rattle.ulfm_board.specs.inside.Trail.{known_of, names_of}
use Rattle.ulfm_board.proofs.seat.seats.Given as goal

abbrev pub invariant-loop : goal.invariant-loop
invariant-loop l =
    (vec_len l.all ≡ l.counter)
    × (l.n ≤ vec_capacity l.all)
    × All (λ (s : Seat). Some (names_of (arc_value s.register).items) ≡ Some (names_of (arc_value l.board).items)) l.all.items
    × All (λ (s : Seat). known_of s.trail ≡ nothing_known) l.all.items
