-- What contracts see of a log, and what holds of its fields.
use Rattle.std.specs.Prelude.{◌≡◌, ◌≤◌, ℕ, Bool, List, Option, Some, None, is_some, length, Vec, vec_capacity}
use Rattle.std.specs.Global.{Global}
use Rattle.ulfm_log.specs.declared.entry.Entry.{Entry}

-- the entries, how many there is room for, and whether they are kept
pub record LogView : Type 0 where
  pub items : List Entry
  pub capacity : ℕ
  pub keeps : Bool

-- how many entries a log counts that isn't kept
abbrev pub countable : ℕ
countable = 9223372036854775807

-- how many entries there is room for
abbrev pub capacity_of : Option (Vec Entry Global) → ℕ
capacity_of (Some entries) = vec_capacity entries
capacity_of None = countable

-- what contracts see of a log
abbrev pub log_view : Option (Vec Entry Global) → List Entry → LogView
log_view kept items = record { items = items; capacity = capacity_of kept; keeps = is_some kept }

-- what is kept, if it is, is what happened, and otherwise it isn't too much to count
abbrev pub IsKept : Option (Vec Entry Global) → List Entry → Type 0
IsKept (Some entries) items = entries.items ≡ items
IsKept None items = length items ≤ countable

-- the number is that of what happened
pub record IsLog (kept : Option (Vec Entry Global)) (len : ℕ) (items : List Entry) : Type 0 where
  pub counted : len ≡ length items
  pub is_kept : IsKept kept items
