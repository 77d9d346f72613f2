-- What contracts see of a rank: its log, and what went out of each of its outboxes.
use Rattle.std.specs.Prelude.{◌≡◌, ℕ, Bool, true, false, ◌&&◌, ◌||◌, List, [], ◌∷◌, ◌++◌, ◌+◌, ◌-◌, ◌==◌, ◌<◌, ◌≤◌, if◌then◌else◌, take, drop, length, slice_index_or, slice_set, replicate}
use Rattle.ulfm_base.specs.declared.item.Item.{Item}
use Rattle.ulfm_base.specs.declared.item.Item.TheVariants.{Gone}
use Rattle.ulfm_log.specs.declared.entry.Entry.{Entry}
use Rattle.ulfm_log.specs.Facts.{is_stopped}
use Rattle.ulfm_log.specs.Owed.{owed}

-- how many owed items went out of one outbox, and whether the notice of the stop did
pub record Mark : Type 0 where
  pub items_out : ℕ
  pub notice_out : Bool

-- the mark of an outbox of which nothing went out
abbrev pub no_mark : Mark
no_mark = record { items_out = 0; notice_out = false }

-- A rank by its number, the number of ranks, its log, how far each outbox went out, and whether it keeps its log. One that
-- doesn't keeps what its answers need, and nobody can look at its log, which contracts tell all the same.
pub record State : Type 0 where
  pub me : ℕ
  pub ranks : ℕ
  pub log : List Entry
  pub marks : List Mark
  pub keeps : Bool

-- A rank, whether there is room for one `take` or one call, whether the table of requests has a place for one more, as
-- a receive, or a probe that finds a letter, needs it, and of which outboxes the item that went out last keeps its place. Of
-- these 'unchanged' doesn't speak.
pub record RankView : Type 0 where
  pub state : State
  pub prepared : Bool
  pub has_place : Bool
  pub lent : List Bool

-- there is room for one `take` or one call, whichever it is
abbrev pub is_ready : RankView → Bool
is_ready rank = rank.prepared && rank.has_place

-- the rank that starts, with a log that it keeps or doesn't
abbrev pub start_state_with : Bool → ℕ → ℕ → State
start_state_with keeps me n = record { me = me; ranks = n; log = []; marks = replicate n no_mark; keeps = keeps }

-- the rank that starts, and keeps its log
abbrev pub start_state : ℕ → ℕ → State
start_state me n = start_state_with true me n

-- the log with one more entry
abbrev pub logged : State → Entry → State
logged r e = record { me = r.me; ranks = r.ranks; log = r.log ++ e ∷ []; marks = r.marks; keeps = r.keeps }

-- the rank with other marks
abbrev pub with_marks : State → List Mark → State
with_marks r marks = record { me = r.me; ranks = r.ranks; log = r.log; marks = marks; keeps = r.keeps }

-- the mark of the outbox towards d
abbrev pub mark_at : State → ℕ → Mark
mark_at r d = slice_index_or r.marks d no_mark

-- what the rank owes to d
abbrev pub owes : State → ℕ → List Item
owes r d = owed r.ranks r.me r.log d

-- the notice of the stop, where it went out
abbrev pub notice : Bool → List Item
notice out = if out then Gone ∷ [] else []

-- what went out of the outbox towards d
abbrev pub went_out : State → ℕ → List Item
went_out r d = take (mark_at r d).items_out (owes r d) ++ notice (mark_at r d).notice_out

-- what the outbox towards d holds: what is owed and didn't go out, or after a stop the notice, which isn't for itself
abbrev pub outbox : State → ℕ → List Item
outbox r d =
    if is_stopped r.log
    then (if r.me == d then [] else (if (mark_at r d).notice_out then [] else Gone ∷ []))
    else drop (mark_at r d).items_out (owes r d)

-- the mark after the first item went out
abbrev pub marked : State → Mark → Mark
marked r m = if is_stopped r.log then record { items_out = m.items_out; notice_out = true } else record { items_out = m.items_out + 1; notice_out = m.notice_out }

-- the mark before the last item went out
abbrev pub unmarked : State → Mark → Mark
unmarked r m = if is_stopped r.log then record { items_out = m.items_out; notice_out = false } else record { items_out = m.items_out - 1; notice_out = m.notice_out }

-- the rank after the first item of the outbox towards d went out
abbrev pub taken_out : State → ℕ → State
taken_out r d = with_marks r (slice_set r.marks d (marked r (mark_at r d)))

-- the rank with the last item back in the outbox towards d
abbrev pub returned : State → ℕ → State
returned r d = with_marks r (slice_set r.marks d (unmarked r (mark_at r d)))

-- what holds of every rank
pub record IsState (r : State) : Type 0 where
  pub small : r.ranks ≤ 8
  pub me : r.me < r.ranks
  pub sized : length r.marks ≡ r.ranks
  pub within : (d : ℕ) → d < r.ranks → (mark_at r d).items_out ≤ length (owes r d)
  pub no_notice : is_stopped r.log ≡ false → (d : ℕ) → d < r.ranks → (mark_at r d).notice_out ≡ false
  pub no_own_notice : (mark_at r r.me).notice_out ≡ false

-- the last item that went out of the outbox towards d is this one, and it may come back
pub record MayReturn (r : State) (d : ℕ) (item : Item) : Type 0 where
  pub front : outbox (returned r d) d ≡ item ∷ outbox r d
  pub again : taken_out (returned r d) d ≡ r

-- the last item that went out of the outbox towards d keeps its place there, or is the notice, which takes none
abbrev pub has_way_back : State → List Bool → ℕ → Bool
has_way_back r lent d = is_stopped r.log || slice_index_or lent d false

-- from old to new this item went out of the outbox towards d, and may come back
pub record GoesOut (old new : State) (d : ℕ) (item : Item) : Type 0 where
  pub marked : new ≡ taken_out old d
  pub front : outbox old d ≡ item ∷ outbox new d
  pub may_return : MayReturn new d item
