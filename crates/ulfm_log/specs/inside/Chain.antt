-- What a chain tells.
use Rattle.std.specs.Prelude.{List, [], ◌∷◌, ◌++◌}
use Rattle.ulfm_log.specs.declared.entry.Entry.{Entry}
use Rattle.ulfm_log.specs.declared.history.Chain.{Chain, fold-Chain}
use Rattle.ulfm_log.specs.declared.history.Chain.TheOpen.{Chain-F}

-- one link, with what happened before it already read
abbrev pub with_link : Chain-F (List Entry) → List Entry
with_link Chain-F.Nothing = []
with_link (Chain-F.Then before last) = before.value ++ last.value ∷ []
with_link (Chain-F.Again before) = before.value

-- its entries, in order
abbrev pub items_of : Chain → List Entry
items_of = fold-Chain (List Entry) with_link
