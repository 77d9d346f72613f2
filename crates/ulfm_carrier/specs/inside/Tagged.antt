-- An item with the rank that it came from.
use Rattle.ulfm_base.specs.declared.rank.WorldRank.{WorldRank}
use Rattle.ulfm_base.specs.declared.item.Item.{Item}
use Rattle.ulfm_carrier.specs.declared.carried.Carried.{Carried}
use Rattle.ulfm_carrier.specs.Carried.{item_from}

-- the item with its sender
abbrev pub with_sender : WorldRank → Item → WorldRank × Item
with_sender source item = (source, item)

-- the item that came from this rank, with its sender
abbrev pub signed : WorldRank → Carried → WorldRank × Item
signed source x = (source, item_from source x)
