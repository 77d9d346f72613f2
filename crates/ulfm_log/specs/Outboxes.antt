-- The outboxes of a rank: the items that wait, how many went out, and that these are what the log owes.
use Rattle.std.specs.Prelude.{◌≡◌, ℕ, Bool, false, List, [], ◌∷◌, ◌++◌, ◌+◌, ◌-◌, ◌<◌, ◌≤◌, length, drop, slice_index_or, if◌then◌else◌}
use Rattle.ulfm_base.specs.declared.item.Item.{Item}
use Rattle.ulfm_base.specs.declared.item.Item.TheVariants.{Revoke, Enter}
use Rattle.ulfm_log.specs.declared.entry.Entry.{Entry}
use Rattle.ulfm_log.specs.declared.word.Word.{Word}
use Rattle.ulfm_log.specs.declared.word.Word.TheVariants.{Revoke as WordOfRevoke, Enter as WordOfEnter}
use Rattle.ulfm_log.specs.Facts.{is_stopped}
use Rattle.ulfm_log.specs.Owed.{owed}
use Rattle.ulfm_log.specs.State.{Mark}

-- one outbox: the items that wait, how many went out before them, and whether the notice of the stop did
pub record Box : Type 0 where
  pub items : List Item
  pub items_out : ℕ
  pub notice_out : Bool

-- an outbox, whether there is room for one item more, and whether the item that went out last keeps its place
pub record Slot : Type 0 where
  pub contents : Box
  pub room : Bool
  pub lent : Bool

-- the outboxes by their destinations, whether there is room for one item more in each, and in which of them the item that
-- went out last keeps its place
pub record Boxes : Type 0 where
  pub boxes : List Box
  pub room : Bool
  pub lent : List Bool

-- an outbox without its room
abbrev pub contents_of : Slot → Box
contents_of slot = slot.contents

-- an outbox has room for one more item
abbrev pub has_room : Slot → Bool
has_room slot = slot.room

-- the item that went out of an outbox last keeps its place
abbrev pub is_lent : Slot → Bool
is_lent slot = slot.lent

-- one place where it is so
abbrev pub one_if : Bool → ℕ
one_if b = if b then 1 else 0

-- the outbox of a rank that starts
abbrev pub empty_box : Box
empty_box = record { items = []; items_out = 0; notice_out = false }

-- the outbox towards d
abbrev pub box_at : List Box → ℕ → Box
box_at boxes d = slice_index_or boxes d empty_box

-- how far an outbox went out
abbrev pub mark_of : Box → Mark
mark_of b = record { items_out = b.items_out; notice_out = b.notice_out }

-- an outbox with one item more
abbrev pub with_item : Box → Item → Box
with_item b item = record { items = b.items ++ item ∷ []; items_out = b.items_out; notice_out = b.notice_out }

-- an outbox whose first item went out
abbrev pub with_first_out : Box → Box
with_first_out b = record { items = drop 1 b.items; items_out = b.items_out + 1; notice_out = b.notice_out }

-- an outbox with the item that went out last back at its front
abbrev pub with_item_back : Box → Item → Box
with_item_back b item = record { items = item ∷ b.items; items_out = b.items_out - 1; notice_out = b.notice_out }

-- an outbox whose notice went out or did not
abbrev pub with_notice_out : Box → Bool → Box
with_notice_out b notice_out = record { items = b.items; items_out = b.items_out; notice_out = notice_out }

-- the item that brings this word
abbrev pub item_of_word : Word → Item
item_of_word (WordOfRevoke context) = Revoke context
item_of_word (WordOfEnter entrance) = Enter entrance

-- an item for each rank of which the test holds
abbrev pub for_each : (ℕ → Bool) → Item → ℕ → List Item
for_each to item d = if to d then item ∷ [] else []

-- an outbox grows by these items at its end
pub record Grows (old new : Box) (items : List Item) : Type 0 where
  pub grown : new.items ≡ old.items ++ items
  pub items_out : new.items_out ≡ old.items_out
  pub notice_out : new.notice_out ≡ old.notice_out

-- every outbox grew by what is owed to its destination
pub record AllGrow (old new : List Box) (items : ℕ → List Item) : Type 0 where
  pub size : length new ≡ length old
  pub each : (d : ℕ) → d < length new → Grows (box_at old d) (box_at new d) (items d)

-- the outboxes of the rank `me` of n hold what its log owes and didn't go out
pub record HasOutboxes (n me : ℕ) (log : List Entry) (boxes : List Box) : Type 0 where
  pub inside : me < n
  pub size : length boxes ≡ n
  pub held : (d : ℕ) → d < length boxes → (box_at boxes d).items ≡ drop (box_at boxes d).items_out (owed n me log d)
  pub within : (d : ℕ) → d < length boxes → (box_at boxes d).items_out ≤ length (owed n me log d)
  pub no_notice : is_stopped log ≡ false → (d : ℕ) → d < length boxes → (box_at boxes d).notice_out ≡ false
  pub no_own_notice : (box_at boxes me).notice_out ≡ false
