-- Lists by their places.
use Rattle.std.specs.Prelude.{◌≡◌, ◌<◌, ℕ, List, [], ◌∷◌, ⊤, Some, slice_get}
use Rattle.std.specs.List.{AllByRecursion}

-- x stands at place k
abbrev pub at : {X : Type 0} → List X → ℕ → X → Type 0
at xs k x = slice_get xs k ≡ Some x

-- each element stands at the place of its number
abbrev pub InPlace : {X : Type 0} → (X → ℕ) → List X → Type 0
InPlace {X} place xs = (k : ℕ) (x : X) → at xs k x → place x ≡ k

-- by rising numbers
abbrev pub IsAscending : {X : Type 0} → List (ℕ × X) → Type 0
IsAscending [] = ⊤
IsAscending (x ∷ xs) = AllByRecursion (λ y. x.0 < y.0) xs × IsAscending xs
