-- The entries that the rows of the table of shrinks and agreements are.
use Rattle.std.specs.Prelude.{◌≡◌, ⊤}
use Rattle.ulfm_base.specs.declared.item.Item.TheVariants.{Enter}
use Rattle.ulfm_log.specs.declared.entry.Entry.{Entry}
use Rattle.ulfm_log.specs.declared.entry.Entry.TheVariants as entry
use Rattle.ulfm_log.specs.declared.row.RowKind.{RowKind}
use Rattle.ulfm_log.specs.declared.row.RowKind.TheVariants.{Entered, Adopted, Heard}

-- the entry of this kind
abbrev pub entry_of_row : RowKind → Entry
entry_of_row (Entered entrance) = entry.Entered entrance
entry_of_row (Adopted topic decision) = entry.Adopted decision
entry_of_row (Heard source entrance) = entry.Took source (Enter entrance)

-- a decision is kept by its topic
abbrev pub IsOfItsTopic : RowKind → Type 0
IsOfItsTopic (Adopted topic decision) = topic ≡ decision.topic
IsOfItsTopic _ = ⊤
