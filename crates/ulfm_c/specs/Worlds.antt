-- What a call for a new world by C does.
use Rattle.std.specs.Prelude.{◌≡◌, ℕ, ◌<◌, ◌⊎◌, List, Option, Some, length, map}
use Rattle.ulfm_c.specs.declared.handle.Handle.{Handle}
use Rattle.ulfm_c.specs.Making.{IsWorld}
use Rattle.ulfm_c.specs.View.{ReadyView}

-- the process of a handle, if it has one
abbrev pub process_in : Handle → Option ReadyView
process_in h = h.slot.held

-- no world has so many ranks, or so many places in its rings
abbrev pub IsBadSize : ℕ → ℕ → Type 0
IsBadSize ranks capacity = (ranks ≡ 0) ⊎ (8 < ranks) ⊎ (capacity ≡ 0) ⊎ (64 < capacity)

-- With 13 no world has this size. Else with 0 each handle has the process of its place in a new one, and with 12 a growth was refused. 13 and 12 change nothing.
abbrev pub WorldCall : List Handle → List Handle → ℕ → ℕ → Type 0
WorldCall old new capacity code =
    ((code ≡ 13) × IsBadSize (length old) capacity × (new ≡ old))
    ⊎ ((IsBadSize (length old) capacity → ⊥)
    × (((code ≡ 0) × (all : List ReadyView) × IsWorld (length old) capacity all × (map process_in new ≡ map Some all)) ⊎ ((code ≡ 12) × (new ≡ old))))
