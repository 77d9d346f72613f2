-- What an inbox has room for.
use Rattle.std.specs.Prelude.{◌≡◌, ℕ, List, ◌<◌, ◌≤◌, ◌⊎◌, length}
use Rattle.ulfm_base.specs.declared.rank.WorldRank.{WorldRank}
use Rattle.ulfm_base.specs.declared.error.CallError.{CallError}
use Rattle.ulfm_base.specs.declared.error.CallError.TheVariants.{BadSize, OutOfMemory}
use Rattle.ulfm_base.specs.declared.item.Item.{Item}
use Rattle.ulfm_base.specs.Items.{items_from}
use Rattle.ulfm_world.specs.declared.room.Room.{Room}
use Rattle.ulfm_world.specs.declared.room.Room.TheVariants.{PerInbox, PerPair}

-- how many places there are
abbrev pub places : Room → ℕ
places (PerInbox n) = n
places (PerPair n) = n

-- how many of them an inbox has given away, where one of s asks: to all of its items, or to those of s
abbrev pub taken_places : Room → ℕ → List (WorldRank × Item) → ℕ
taken_places (PerInbox n) s items = length items
taken_places (PerPair n) s items = length (items_from s items)

-- an inbox has a place for one more item of s
abbrev pub HasRoom : Room → ℕ → List (WorldRank × Item) → Type 0
HasRoom room s items = taken_places room s items < places room

-- it has none
abbrev pub IsFull : Room → ℕ → List (WorldRank × Item) → Type 0
IsFull room s items = places room ≤ taken_places room s items

-- a world has 1 to 8 ranks, and inboxes of 1 to 64 places
abbrev pub AreSizes : ℕ → ℕ → Type 0
AreSizes n capacity = (1 ≤ n) × (n ≤ 8) × (1 ≤ capacity) × (capacity ≤ 64)

-- why there is no world of these sizes
abbrev pub IsNoWorld : ℕ → ℕ → CallError → Type 0
IsNoWorld n capacity e =
    ((e ≡ BadSize) × ((n ≡ 0) ⊎ (8 < n) ⊎ (capacity ≡ 0) ⊎ (64 < capacity)))
    ⊎ ((e ≡ OutOfMemory) × AreSizes n capacity)
