-- Sets of ranks.
use Rattle.std.specs.Prelude.{◌≡◌, ℕ, Bool, true, false, slice_index_or}
use Rattle.ulfm_base.specs.declared.rank_set.RankSet.{RankSet}
use Rattle.ulfm_base.specs.declared.rank.WorldRank.{WorldRank}

-- whether the rank of this number is in the set
abbrev pub has : RankSet → ℕ → Bool
has set r = slice_index_or set.members r false

-- the rank is in the set
abbrev pub IsMember : RankSet → WorldRank → Type 0
IsMember set rank = has set rank.number ≡ true

-- no rank is in the set
abbrev pub IsEmpty : RankSet → Type 0
IsEmpty set = (r : ℕ) → has set r ≡ false

-- each rank of the first set is in the second
abbrev pub IsSubset : RankSet → RankSet → Type 0
IsSubset set other = (r : ℕ) → has set r ≡ true → has other r ≡ true
