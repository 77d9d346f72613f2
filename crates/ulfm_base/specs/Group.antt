-- Groups: lists of distinct ranks, and where a member stands (MPI 4.0, 7.3).
use Rattle.std.specs.Prelude.{◌≡◌, ℕ, zero, suc, Bool, false, List, [], ◌∷◌, ◌++◌, ⊤, ◌<◌, ◌==◌, not, filter, Option, Some, None, slice_get, if◌then◌else◌}
use Rattle.std.specs.List.{list_any}

-- whether the rank r is a member
abbrev pub is_member : List ℕ → ℕ → Bool
is_member group r = list_any (λ m. m == r) group

-- distinct ranks of the world
abbrev pub IsGroup : List ℕ → Type 0
IsGroup [] = ⊤
IsGroup (m ∷ group) = (m < 8) × (is_member group m ≡ false) × IsGroup group

-- a position, one further on
abbrev pub one_further : Option ℕ → Option ℕ
one_further None = None
one_further (Some k) = Some (suc k)

-- the position of the member r
abbrev pub rank_in : List ℕ → ℕ → Option ℕ
rank_in [] r = None
rank_in (m ∷ group) r = if m == r then Some 0 else one_further (rank_in group r)

-- the group without the members that pass, in the old order
abbrev pub excluding : List ℕ → (ℕ → Bool) → List ℕ
excluding group excluded = filter (λ m. not (excluded m)) group

-- the group with the rank r at its end, where r isn't a member yet
abbrev pub including : List ℕ → ℕ → List ℕ
including group r = group ++ (if is_member group r then [] else r ∷ [])

-- the members that are members of the other group too, in the order of the first
abbrev pub intersection : List ℕ → List ℕ → List ℕ
intersection group other = filter (λ m. is_member other m) group

-- the numbers from k up, n of them
abbrev pub numbers_from : ℕ → ℕ → List ℕ
numbers_from k zero = []
numbers_from k (suc n) = k ∷ numbers_from (suc k) n

-- the position of a rank, where there is one
abbrev pub position_in : List ℕ → Option ℕ → Option ℕ
position_in other None = None
position_in other (Some member) = rank_in other member

-- the position in the other group of the member at a position of this one
abbrev pub translated : List ℕ → List ℕ → ℕ → Option ℕ
translated group other position = position_in other (slice_get group position)
