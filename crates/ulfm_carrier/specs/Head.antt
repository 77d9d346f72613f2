-- What is told of an item that stays in its ring.
use Rattle.std.specs.Prelude.{length}
use Rattle.ulfm_base.specs.declared.item.Item.{Item}
use Rattle.ulfm_base.specs.declared.item.Item.TheVariants as item
use Rattle.ulfm_carrier.specs.declared.carried.Carried.{Carried}
use Rattle.ulfm_carrier.specs.declared.head.Head.{Head}
use Rattle.ulfm_carrier.specs.declared.head.Head.TheVariants.{Letter, Gone, Revoke, Enter}

-- what is told of an item: not its source, the bytes of its body, and what its sender brings into a shrink or an agreement
abbrev pub head_of : Item → Head
head_of (item.Letter letter) = Letter letter.envelope.context letter.envelope.tag (length letter.body)
head_of item.Gone = Gone
head_of (item.Revoke context) = Revoke context
head_of (item.Enter entrance) = Enter entrance.topic

-- what is told of an item that a ring carries
abbrev pub head_in : Carried → Head
head_in carried = head_of carried.item
