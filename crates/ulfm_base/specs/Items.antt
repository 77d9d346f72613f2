-- Items and who sent them.
use Rattle.std.specs.Prelude.{◌≡◌, ⊤, ℕ, List, [], ◌∷◌, ◌==◌, if◌then◌else◌}
use Rattle.std.specs.List.{flat_map}
use Rattle.ulfm_base.specs.declared.rank.WorldRank.{WorldRank}
use Rattle.ulfm_base.specs.declared.item.Item.{Item}
use Rattle.ulfm_base.specs.declared.item.Item.TheVariants.{Letter as Mail}

-- a letter's source is the rank of this number
abbrev pub ComesFrom : ℕ → Item → Type 0
ComesFrom p (Mail letter) = letter.envelope.source.number ≡ p
ComesFrom p _ = ⊤

-- the item, if s is its sender
abbrev pub item_if_from : ℕ → WorldRank × Item → List Item
item_if_from s x = if x.0.number == s then x.1 ∷ [] else []

-- the items of the sender s, in order
abbrev pub items_from : ℕ → List (WorldRank × Item) → List Item
items_from s xs = flat_map (item_if_from s) xs
