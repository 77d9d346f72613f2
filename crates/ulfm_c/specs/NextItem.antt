-- What C is told of the first item in a ring.
use Rattle.std.specs.Prelude.{ℕ, Option, Some, None}
use Rattle.ulfm_base.specs.declared.topic.Topic.{Topic}
use Rattle.ulfm_base.specs.declared.topic.Purpose.{Purpose}
use Rattle.ulfm_base.specs.declared.topic.Purpose.TheVariants.{Shrink, Agree}
use Rattle.ulfm_c.specs.declared.next_item.CNextItem.{CNextItem}
use Rattle.ulfm_carrier.specs.declared.head.Head.{Head}
use Rattle.ulfm_carrier.specs.declared.head.Head.TheVariants.{Letter, Gone, Revoke, Enter}

-- an item of this kind, without a tag, a length and a round
abbrev pub bare_item : ℕ → ℕ → CNextItem
bare_item kind comm = record { kind = kind; comm = comm; tag = 0; length = 0; round = 0 }

-- the entry into a shrink or an agreement
abbrev pub entry_of : Purpose → ℕ → CNextItem
entry_of (Shrink round) comm = record { kind = 4; comm = comm; tag = 0; length = 0; round = round }
entry_of (Agree round) comm = record { kind = 5; comm = comm; tag = 0; length = 0; round = round }

abbrev pub entry_item : Topic → CNextItem
entry_item t = entry_of t.purpose t.context.number

-- the first item, or that there is none
abbrev pub next_item : Option Head → CNextItem
next_item None = bare_item 0 0
next_item (Some (Letter context tag length)) = record { kind = 1; comm = context.number; tag = tag.number; length = length; round = 0 }
next_item (Some Gone) = bare_item 2 0
next_item (Some (Revoke context)) = bare_item 3 context.number
next_item (Some (Enter topic)) = entry_item topic
