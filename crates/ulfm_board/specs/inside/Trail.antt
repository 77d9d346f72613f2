-- What a seat has walked through of a register of rows.
use Rattle.std.specs.Prelude.{◌≡◌, ℕ, suc, ◌+◌, ◌-◌, ◌*◌, ◌/◌, ◌%◌, ◌^◌, ◌<◌, ◌++◌, ◌==◌, List, [], ◌∷◌, length, map, replicate, Option, None, Some, slice_get, slice_index_or, slice_set, if◌then◌else◌, Vec}
use Rattle.std.specs.Option.{option_and_then, option_map}
use Rattle.std.specs.List.{range_with_len}
use Rattle.std.specs.FinMap.{entries, from_entries}
use Rattle.std.specs.Int.{leading_zeros, w64}
use Rattle.std.specs.Ordering.{nat_cmp}
use Rattle.std.specs.declared.alloc.Global.{Global}
use Rattle.once_cell.specs.declared.race.note.Note.{Note}
use Rattle.once_cell.specs.declared.race.once_box.OnceBox.{OnceBox}
use Rattle.once_cell.specs.Once.{cell_name}
use Rattle.ulfm_base.specs.Lists.{at}
use Rattle.ulfm_base.specs.declared.decision.Decision.{Decision}
use Rattle.ulfm_board.specs.declared.proposed.Proposed.{Proposed}
use Rattle.ulfm_board.specs.declared.row.Row.{Row}
use Rattle.ulfm_board.specs.Known.{Known, BothAgree}

-- the slots of one chunk
abbrev pub Slots : Type 0
Slots = Vec (OnceBox Row) Global

-- the names of cells
abbrev pub names_of : List (Global × ℕ) → List ℕ
names_of cells = map cell_name cells

-- the chunk of a slot: chunk k has 2 ^ k slots
abbrev pub chunk_of : ℕ → ℕ
chunk_of slot = 63 - leading_zeros w64 (slot + 1)

-- where in its chunk a slot is
abbrev pub place_of : ℕ → ℕ
place_of slot = (slot + 1) - 2 ^ chunk_of slot

-- What is seen of a trail: the names of the register's chunks, and of their slots, where they are known. The names of the slots
-- that were walked through, the numbers of their rows, and the names of the cells there, 64 for each, with the decisions that are known.
pub record TrailView : Type 0 where
  pub register : List ℕ
  pub chunks : List (Option (List ℕ))
  pub slots : List ℕ
  pub numbers : List ℕ
  pub cells : List ℕ
  pub decided : List (Option Decision)

-- the name of a slot, where its chunk is known
abbrev pub slot_name : List (Option (List ℕ)) → ℕ → Option ℕ
slot_name chunks slot = option_and_then (λ (known : Option (List ℕ)). option_and_then (λ (names : List ℕ). slice_get names (place_of slot)) known) (slice_get chunks (chunk_of slot))

-- what a note knows of a chunk's slots
abbrev pub slots_known : Note Slots → Option (List ℕ)
slots_known note = option_map (λ (slots : Slots). names_of slots.items) note.known

-- the number of a row that a note knows
abbrev pub number_known : Note Row → Option ℕ
number_known note = option_map (λ (row : Row). row.number) note.known

-- the names of the cells of a row that a note knows
abbrev pub cells_known : Note Row → Option (List ℕ)
cells_known note = option_map (λ (row : Row). names_of row.cells.items) note.known

-- the decision that a note knows
abbrev pub decision_known : Note Proposed → Option Decision
decision_known note = option_map (λ (proposed : Proposed). proposed.decision) note.known

-- Each slot that was walked through is the one of its number, its row is known, with its number, and the cells that are noted are its own.
pub record IsTrail (chunks : List (Note Slots)) (rows : List (Note Row)) (numbers : List ℕ) (cells : List (Note Proposed)) : Type 0 where
  pub many : length rows ≡ length numbers
  pub each : length cells ≡ 64 * length numbers
  pub named : (n : ℕ) (row : Note Row) → at rows n row → slot_name (map slots_known chunks) n ≡ Some row.cell
  pub numbered : (n : ℕ) (row : Note Row) → at rows n row → number_known row ≡ slice_get numbers n
  pub tied : (n : ℕ) (row : Note Row) → at rows n row → (names : List ℕ) × (cells_known row ≡ Some names)
      × ((p : ℕ) → p < 64 → slice_get names p ≡ slice_get (map (λ (cell : Note Proposed). cell.cell) cells) (64 * n + p))

-- what is seen of it
abbrev pub trail_view : List (Note Slots) → List (Note Row) → List ℕ → List (Note Proposed) → TrailView
trail_view chunks rows numbers cells = record {
  register = map (λ (note : Note Slots). note.cell) chunks;
  chunks = map slots_known chunks;
  slots = map (λ (note : Note Row). note.cell) rows;
  numbers = numbers;
  cells = map (λ (note : Note Proposed). note.cell) cells;
  decided = map decision_known cells;
}

-- the first slot whose row has this number
abbrev pub slot_of : List ℕ → ℕ → Option ℕ
slot_of [] number = None
slot_of (n ∷ ns) number = if n == number then Some 0 else option_map suc (slot_of ns number)

-- the decision of a cell of a row, where the row has a slot
abbrev pub cell_in : List (Option Decision) → Option ℕ → ℕ → Option Decision
cell_in decided None place = None
cell_in decided (Some slot) place = slice_index_or decided (64 * slot + place) None

-- the decision on the topic of this number, where it is known
abbrev pub seen : List ℕ → List (Option Decision) → ℕ → Option Decision
seen numbers decided number = cell_in decided (slot_of numbers (number / 64)) (number % 64)

-- the numbers of topics in these rows
abbrev pub topics_in : List ℕ → List ℕ
topics_in [] = []
topics_in (n ∷ ns) = map (λ place. 64 * n + place) (range_with_len 0 64) ++ topics_in ns

-- one more decision, if there is one
abbrev pub and_known : ℕ → Option Decision → Known → Known
and_known number None known = known
and_known number (Some d) known = (number, d) ∷ known

-- the decisions on the topics of these numbers
abbrev pub listed_by : (ℕ → Option Decision) → List ℕ → Known
listed_by f [] = []
listed_by f (n ∷ ns) = and_known n (f n) (listed_by f ns)

-- what is known along a trail, by rising numbers
abbrev pub known_of : TrailView → Known
known_of trail = entries (from_entries {R = nat_cmp} (listed_by (seen trail.numbers trail.decided) (topics_in trail.numbers)))

-- a trail that goes nowhere yet
abbrev pub new_trail : List ℕ → TrailView
new_trail register = record { register = register; chunks = replicate (length register) None; slots = []; numbers = []; cells = []; decided = [] }

-- the trail with chunks of other slots
abbrev pub with_chunks : TrailView → List (Option (List ℕ)) → TrailView
with_chunks trail chunks = record { register = trail.register; chunks = chunks; slots = trail.slots; numbers = trail.numbers; cells = trail.cells; decided = trail.decided }

-- The trail goes on from one to another: by these rows, of which it knows no decision yet. Of the register it may know more.
pub record GoesOn (old : TrailView) (more : List ℕ) (new : TrailView) : Type 0 where
  pub register : new.register ≡ old.register
  pub numbers : new.numbers ≡ old.numbers ++ more
  pub decided : new.decided ≡ old.decided ++ replicate (64 * length more) None

-- one cell's decision is known, and all else is as it was
pub record KnowsCell (old : TrailView) (cell : ℕ) (held : Decision) (new : TrailView) : Type 0 where
  pub register : new.register ≡ old.register
  pub numbers : new.numbers ≡ old.numbers
  pub decided : new.decided ≡ slice_set old.decided cell (Some held)

-- as far as both go, two trails go through the same rows, and know no two decisions of one cell
pub record TrailsAgree (a b : TrailView) : Type 0 where
  pub rows : (n : ℕ) → n < length a.numbers → n < length b.numbers → slice_get a.numbers n ≡ slice_get b.numbers n
  pub cells : (n p : ℕ) → n < length a.numbers → n < length b.numbers → p < 64
      → BothAgree (slice_index_or a.decided (64 * n + p) None) (slice_index_or b.decided (64 * n + p) None)
