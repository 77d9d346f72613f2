-- Seats, and the processes that have them.
use Rattle.std.proofs.Common.{◌≡◌, ℕ, zero, suc, List, [], ◌∷◌, ◌++◌, map, subst, sym, arith, All, Option}
use Rattle.ulfm_board.specs.Known.{Known}
use Rattle.ulfm_board.specs.contracts.seat.SeatDecider.TheImpl.{ghosts}
use Rattle.ulfm_board.specs.declared.seat.Seat.{Seat}

-- what a seat is of, and what it knows
abbrev pub in_seat : Seat → Option (List ℕ) × Known
in_seat s = (ghosts.board s, ghosts.known s)

-- what holds of each seat holds of each process that has one
pub each_of_front : {A B C : Type 0} (f : A → C) (g : B → C) (P : C → Type 0) (xs : List A) (ys : List B) (rest : List C) → map f xs ++ rest ≡ map g ys → All (λ y. P (g y)) ys → All (λ x. P (f x)) xs
each_of_front f g P [] ys rest same all k d l = absurd (omega (arith, l))
each_of_front f g P (x ∷ xs) [] rest same all k d l = absurd (cc)
each_of_front f g P (x ∷ xs) (y ∷ ys) rest same all zero d l = let head : f x ≡ g y = cc in subst P (sym head) (all zero y (omega arith))
each_of_front f g P (x ∷ xs) (y ∷ ys) rest same all (suc k) d l =
    let tail : map f xs ++ rest ≡ map g ys = cc in
    each_of_front f g P xs ys rest tail (λ j e m. all (suc j) e (omega (arith, m))) k d (omega (arith, l))
