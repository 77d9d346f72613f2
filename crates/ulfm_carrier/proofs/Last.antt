-- The last of a list, and the others.
use Rattle.std.proofs.Common.{◌≡◌, ℕ, zero, suc, Option, None, Some, List, [], ◌∷◌, ◌++◌, length, refl, sym, subst, IfSome, option_to_list}
use Rattle.ulfm_carrier.proofs.Common.{at}

pub at_middle : {X : Type 0} (xs ys : List X) (x : X) → at (xs ++ x ∷ ys) (length xs) x
at_middle [] ys x = refl
at_middle (z ∷ xs) ys x = at_middle xs ys x

pub at_front : {X : Type 0} (xs ys : List X) (k : ℕ) {x : X} → at xs k x → at (xs ++ ys) k x
at_front [] ys k here = absurd (cc)
at_front (y ∷ xs) ys zero here = here
at_front (y ∷ xs) ys (suc k) {x} here = at_front xs ys k here

-- what holds of each holds of the last
pub of_last : {X : Type 0} (P : X → Type 0) {all : List X} (others : List X) (last : Option X) → all ≡ others ++ option_to_list last → ((k : ℕ) (x : X) → at all k x → P x) → IfSome last P
of_last P others None is each = tt
of_last P others (Some x) is each = each (length others) x (subst (λ l. at l (length others) x) (sym is) (at_middle others [] x))

-- and of each of the others
pub of_others : {X : Type 0} (P : X → Type 0) {all : List X} (others : List X) (last : Option X) → all ≡ others ++ option_to_list last → ((k : ℕ) (x : X) → at all k x → P x) → (k : ℕ) (x : X) → at others k x → P x
of_others P others last is each k x here = each k x (subst (λ l. at l k x) (sym is) (at_front others (option_to_list last) k here))
