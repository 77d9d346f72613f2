-- Items with and without their source.
use Rattle.std.proofs.Common.{arith}
use Rattle.ulfm_base.specs.declared.rank.WorldRank.{WorldRank}
use Rattle.ulfm_base.specs.declared.item.Item.{Item}
use Rattle.ulfm_base.specs.declared.item.Item.TheVariants as item
use Rattle.ulfm_carrier.specs.declared.carried.Carried.{Carried}

-- the item with this source, where it has one
abbrev pub signed_by : WorldRank → Item → Item
signed_by source (item.Letter letter) = item.Letter (record letter { envelope = record letter.envelope { source = source } })
signed_by source item.Gone = item.Gone
signed_by source (item.Revoke context) = item.Revoke context
signed_by source (item.Enter entrance) = item.Enter entrance

-- the source that stands in an item without one
abbrev pub blank : WorldRank
blank = record { number = 0; in_range = omega arith }

-- the item without its source
abbrev pub carried_of : Item → Carried
carried_of item = record { item = signed_by blank item }

-- the item that came from this rank
abbrev pub item_from : WorldRank → Carried → Item
item_from source carried = signed_by source carried.item
