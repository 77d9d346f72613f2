-- Ends that hand out an item before it was sent.
use Rattle.std.specs.Prelude.{◌≡◌, ◌==◌, ◌<◌, ℕ, List, [], ◌∷◌, Option, Some, None, IfSome, if◌then◌else◌}
use Rattle.std.specs.declared.snapshot.Snapshot.{Snapshot}
use Rattle.ulfm_base.specs.declared.item.Item.{Item}
use Rattle.ulfm_base.specs.Items.{ComesFrom}

-- what was taken from the rank p, where an item of the rank `from` was handed out
abbrev pub handed_from : Option (Snapshot Item) → ℕ → ℕ → List Item
handed_from None from p = []
handed_from (Some handed) from p = if from == p then handed.value ∷ [] else []

-- the item to be handed out, if there is one, is of the rank `from`, and none was before
pub record MayForetell (ranks from : ℕ) (next : Option Item) (handed : Option (Snapshot Item)) : Type 0 where
  pub inside : from < ranks
  pub first : IfSome next (λ item. ComesFrom from item × (handed ≡ None))
