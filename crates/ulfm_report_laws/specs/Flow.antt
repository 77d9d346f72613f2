-- What goes from rank to rank, as reports tell it and what is left in inboxes (MPI 4.0, 3.5).
use Rattle.std.specs.Prelude.{◌≡◌, ◌≢◌, ◌≤◌, ℕ, true, false, List, [], ◌∷◌, ◌++◌, length, slice_index_or}
use Rattle.ulfm_base.specs.declared.rank.WorldRank.{WorldRank}
use Rattle.ulfm_base.specs.declared.item.Item.{Item}
use Rattle.ulfm_base.specs.declared.item.Item.TheVariants.{Gone}
use Rattle.ulfm_base.specs.Items.{items_from}
use Rattle.ulfm_base.specs.Lists.{at}
use Rattle.ulfm_log.specs.Facts.{took, is_stopped}
use Rattle.ulfm_log.specs.State.{State, owes, outbox}
use Rattle.ulfm_answer.specs.Report.{Report}

-- what is left in the inbox of each rank, each item with its sender
abbrev pub Inboxes : Type 0
Inboxes = List (List (WorldRank × Item))

-- what is left in the inbox of d
abbrev pub inbox_of : Inboxes → ℕ → List (WorldRank × Item)
inbox_of inboxes d = slice_index_or inboxes d []

-- the first list is a front part of the second
abbrev pub IsBeginning : List Item → List Item → Type 0
IsBeginning xs ys = (rest : List Item) × (xs ++ rest ≡ ys)

-- A part of what is owed was sent, and the notice of the stop comes right after it.
pub record EndsWithNotice (owed items : List Item) : Type 0 where
  pub sent : List Item
  pub beginning : IsBeginning sent owed
  pub all : sent ++ Gone ∷ [] ≡ items

-- The flow from the rank s to the rank d, where this arrived: what arrived and what waits to go out is all that is owed;
-- or, after a stop of s, a beginning of it with the notice behind it, where s isn't d.
pub record Flow (sender : State) (s d : ℕ) (arrived : List Item) : Type 0 where
  pub running : is_stopped sender.log ≡ false → owes sender d ≡ arrived ++ outbox sender d
  pub stopped : is_stopped sender.log ≡ true → s ≢ d → EndsWithNotice (owes sender d) (arrived ++ outbox sender d)
  pub stopped_self : is_stopped sender.log ≡ true → s ≡ d → IsBeginning arrived (owes sender d) × (outbox sender d ≡ [])

-- Between each ordered pair of ranks items flow: what arrived is what the log of the one took from the other, and then what
-- is left of it in the inbox.
abbrev pub Flows : Inboxes → List Report → Type 0
Flows inboxes reports =
    (s d : ℕ) (sender receiver : Report) → at reports s sender → at reports d receiver
    → Flow sender.rank s d (took receiver.rank.log s ++ items_from s (inbox_of inboxes d))

-- no inbox holds more items of any rank than there are places
abbrev pub AreWithin : Inboxes → ℕ → Type 0
AreWithin inboxes places = (s d : ℕ) → length (items_from s (inbox_of inboxes d)) ≤ places
