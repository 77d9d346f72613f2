-- Values by the numbers of contexts: marks and counts.
use Rattle.std.specs.Prelude.{ℕ, suc, Bool, List, [], ◌∷◌, ◌==◌, Option, Some, None, is_some, nat_lt, unwrap_or, if◌then◌else◌, ⊤}

-- the numbers of the contexts that have a value, each with it, and whether there is room for one more
pub record TableView (V : Type 0) : Type 0 where
  pub entries : List (ℕ × V)
  pub room : Bool

-- the value of the context c, if it has one
abbrev pub value_of : {V : Type 0} → ℕ → List (ℕ × V) → Option V
value_of c [] = None
value_of c (entry ∷ entries) = if entry.0 == c then Some entry.1 else value_of c entries

-- the context c has this value, and stands before those of greater numbers
abbrev pub put_at : {V : Type 0} → ℕ → V → List (ℕ × V) → List (ℕ × V)
put_at c value [] = (c, value) ∷ []
put_at c value (entry ∷ entries) = if entry.0 == c then (c, value) ∷ entries else if nat_lt entry.0 c then entry ∷ put_at c value entries else (c, value) ∷ entry ∷ entries

-- how many entries stand before the first one that is of no smaller number than c
abbrev pub places_below : {V : Type 0} → ℕ → List (ℕ × V) → ℕ
places_below c [] = 0
places_below c (entry ∷ entries) = if nat_lt entry.0 c then suc (places_below c entries) else 0

-- contexts that are marked: they have a value that says nothing
abbrev pub Marks : Type 0
Marks = List (ℕ × ⊤)

-- the context c is marked
abbrev pub is_marked : Marks → ℕ → Bool
is_marked marks c = is_some (value_of c marks)

-- how many are counted at the context c: none where it has no value
abbrev pub count_at : List (ℕ × ℕ) → ℕ → ℕ
count_at counts c = unwrap_or (value_of c counts) 0
