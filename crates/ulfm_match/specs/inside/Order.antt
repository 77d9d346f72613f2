-- Entries put in order of their numbers.
use Rattle.std.specs.Prelude.{ℕ, List, [], ◌∷◌, cond, nat_lt}

module _ {X : Type 0} where
  -- the entry before the first with a higher number
  abbrev pub place : ℕ × X → List (ℕ × X) → List (ℕ × X)
  place x [] = x ∷ []
  place x (y ∷ ys) = cond (nat_lt x.0 y.0) (x ∷ y ∷ ys) (y ∷ place x ys)

  -- all entries by rising numbers
  abbrev pub in_order : List (ℕ × X) → List (ℕ × X)
  in_order [] = []
  in_order (x ∷ xs) = place x (in_order xs)
