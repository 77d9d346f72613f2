-- Ranks and their items.
use Rattle.std.proofs.Common.{◌≡◌, refl, ap, sym}
use Rattle.ulfm_carrier.proofs.Common.{ComesFrom, Item, same_rank, WorldRank}
use Rattle.ulfm_carrier.specs.Carried.{carried_of, item_from}
use Rattle.ulfm_base.specs.declared.item.Item.TheVariants as item

-- an item that came from a rank gets this source back
pub source_back : (me : WorldRank) (x : Item) → ComesFrom me.number x → item_from me (carried_of x) ≡ x
source_back me (item.Letter letter) h = ap (λ source. item.Letter (record letter { envelope = record letter.envelope { source = source } })) (same_rank me letter.envelope.source (sym h))
source_back me item.Gone h = refl
source_back me (item.Revoke context) h = refl
source_back me (item.Enter entrance) h = refl
