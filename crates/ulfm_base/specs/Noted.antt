-- Items as a log keeps them.
use Rattle.ulfm_base.specs.declared.item.Item.{Item}
use Rattle.ulfm_base.specs.declared.item.Item.TheVariants as item
use Rattle.ulfm_base.specs.declared.item_kind.ItemKind.{ItemKind}
use Rattle.ulfm_base.specs.declared.item_kind.ItemKind.TheVariants.{Letter, Gone, Revoke, Enter}

-- the item of this kind
abbrev pub item_of : ItemKind → Item
item_of (Letter letter) = item.Letter letter
item_of Gone = item.Gone
item_of (Revoke context) = item.Revoke context
item_of (Enter entrance) = item.Enter entrance
