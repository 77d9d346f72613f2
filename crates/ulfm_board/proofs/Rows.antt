-- The row of a slot that was walked through.
use Rattle.std.proofs.Common.{◌≡◌, ◌<◌, ℕ, ◌+◌, ◌*◌, List, length, map, set, get_or, ap, sym, ◌∙◌, refl, subst, arith, Global, Option, Some, None, IfSome, slice_get}
use Rattle.std.specs.Option.{option_map}
use Rattle.std.proofs.Math.Seq.{map-set_same}
use Rattle.std.proofs.lemmas.List.{length-map}
use Rattle.std.proofs.lemmas.Option.{none-some, same_Some, slice_get-get_or, slice_get-map, slice_get_within}
use Rattle.once_cell.specs.declared.race.note.Note.{Note}
use Rattle.once_cell.specs.Once.{cell_name}
use Rattle.ulfm_base.specs.Lists.{at}
use Rattle.ulfm_board.specs.declared.proposed.Proposed.{Proposed}
use Rattle.ulfm_base.proofs.Places.{there}
use Rattle.ulfm_board.specs.declared.row.Row.{Row}
use Rattle.ulfm_board.specs.inside.Trail.{IsTrail, Slots, chunk_of, names_of, place_of, slot_name, slots_known, trail_view, decision_known}
use Rattle.ulfm_board.proofs.Walked.{chunk_names, chunk_same, more_chunks, read_slot, same_row}

-- the value that is seen is the one that was known
pub learned : {X : Type 0} (o : Option X) (x v : X) → o ≡ Some x → IfSome o (λ y. y ≡ v) → x ≡ v
learned {X} o x v is agrees = subst (λ (t : Option X). IfSome t (λ y. y ≡ v)) is agrees

-- what stands at a place that is known
pub known_view : {X Y : Type 0} (f : X → Y) (o : Option X) (y : Y) → option_map f o ≡ Some y → (x : X) × (o ≡ Some x) × (f x ≡ y)
known_view f None y is = absurd (none-some y is)
known_view f (Some x) y is = (x, refl, same_Some (f x) y is)

-- the chunk of a slot that has a name
abbrev pub HasChunk : List (Note Slots) → ℕ → ℕ → Type 0
HasChunk cs n name = (note : Note Slots) × (slots : Slots) × at cs (chunk_of n) note × (note.known ≡ Some slots) × (slice_get (names_of slots.items) (place_of n) ≡ Some name)

pub chunk_there : (cs : List (Note Slots)) (n name : ℕ) → slot_name (map slots_known cs) n ≡ Some name → HasChunk cs n name
chunk_there cs n name is = by (slice_get cs (chunk_of n)) refl
  where
    known_in : Option Slots → Option ℕ
    known_in o = read_slot n (Some (option_map (λ (s : Slots). names_of s.items) o))

    in_it : (note : Note Slots) (o : Option Slots) → at cs (chunk_of n) note → note.known ≡ o → HasChunk cs n name
    in_it note None here gone = absurd (none-some name (sym (ap (read_slot n) (slice_get-map slots_known cs (chunk_of n) ∙ ap (option_map slots_known) here) ∙ ap known_in gone) ∙ is))
    in_it note (Some slots) here known = (note, slots, here, known, sym (ap (read_slot n) (slice_get-map slots_known cs (chunk_of n) ∙ ap (option_map slots_known) here) ∙ ap known_in known) ∙ is)

    by : (o : Option (Note Slots)) → slice_get cs (chunk_of n) ≡ o → HasChunk cs n name
    by None here = absurd (none-some name (sym (ap (read_slot n) (slice_get-map slots_known cs (chunk_of n) ∙ ap (option_map slots_known) here)) ∙ is))
    by (Some note) here = in_it note note.known here refl

module _ {chunks : List (Note Slots)} {rows : List (Note Row)} {numbers : List ℕ} {cells : List (Note Proposed)} (trail : IsTrail chunks rows numbers cells) (s : ℕ) (low : s < length numbers) where
  pub note_there : (r : Note Row) × at rows s r
  note_there = there rows s (omega (arith, low, trail.many))

  chunk_here : HasChunk chunks s note_there.0.cell
  chunk_here = chunk_there chunks s note_there.0.cell (trail.named s note_there.0 note_there.1)

  pub chunk_low : chunk_of s < length chunks
  chunk_low = slice_get_within chunks (chunk_of s) chunk_here.0 chunk_here.2

  pub chunk_in : (k : ℕ) → k ≡ chunk_of s → k < length chunks
  chunk_in k is = subst (λ (j : ℕ). j < length chunks) (sym is) chunk_low

  -- its chunk is known
  module _ (k : ℕ) (n : Note Slots) (is : k ≡ chunk_of s) (here : n ≡ get_or chunks k n) where
    slots_there : n.known ≡ Some chunk_here.1
    slots_there =
        let in_range = chunk_in k is in
        let same : n ≡ chunk_here.0 = same_Some n chunk_here.0 (ap Some here ∙ sym (slice_get-get_or chunks k n in_range) ∙ ap (slice_get chunks) is ∙ chunk_here.2) in
        ap (λ (x : Note Slots). x.known) same ∙ chunk_here.3

    pub chunk_made : n.known ≡ None → ⊥
    chunk_made none = none-some chunk_here.1 (sym none ∙ slots_there)

    module _ (v : Slots) (agrees : IfSome n.known (λ (y : Slots). y ≡ v)) where
      pub slots_still : Some v ≡ n.known
      slots_still = ap Some (sym (learned n.known chunk_here.1 v slots_there agrees)) ∙ sym slots_there

      name_there : slice_get (names_of v.items) (place_of s) ≡ Some note_there.0.cell
      name_there = ap (λ (y : Slots). slice_get (names_of y.items) (place_of s)) (sym (learned n.known chunk_here.1 v slots_there agrees)) ∙ chunk_here.4

      pub place_low : place_of s < length v.items
      place_low = omega (arith, slice_get_within (names_of v.items) (place_of s) note_there.0.cell name_there, length-map v.items cell_name)

      pub place_in : (j : ℕ) → j ≡ place_of s → j < length v.items
      place_in j at_j = subst (λ (i : ℕ). i < length v.items) (sym at_j) place_low

      -- the slot there is the one whose row is noted
      pub slot_named : (j : ℕ) (x : Global × ℕ) (m : Note Row) → j ≡ place_of s → x ≡ get_or v.items j x → m ≡ get_or rows s m → m.cell ≡ cell_name x
      slot_named j x m at_j there mine =
          let in_range = place_in j at_j in
          let in_rows : s < length rows = omega (arith, low, trail.many) in
          let same : m ≡ note_there.0 = same_Some m note_there.0 (ap Some mine ∙ sym (slice_get-get_or rows s m in_rows) ∙ note_there.1) in
          same_Some m.cell (cell_name x) (
          ap (λ (y : Note Row). Some y.cell) same ∙ sym name_there ∙ ap (slice_get (names_of v.items)) (sym at_j) ∙ slice_get-map cell_name v.items j
          ∙ ap (option_map cell_name) (slice_get-get_or v.items j x in_range) ∙ ap (λ (y : Global × ℕ). Some (cell_name y)) (sym there))

  -- so is its row
  module _ (m : Note Row) (mine : m ≡ get_or rows s m) where
    row_note : at rows s m
    row_note =
        let in_rows : s < length rows = omega (arith, low, trail.many) in
        slice_get-get_or rows s m in_rows ∙ ap Some (sym mine)

    row_there : (row : Row) × (m.known ≡ Some row) × (names_of row.cells.items ≡ (trail.tied s m row_note).0)
    row_there = known_view (λ (r : Row). names_of r.cells.items) m.known (trail.tied s m row_note).0 (trail.tied s m row_note).1

    pub row_made : m.known ≡ None → ⊥
    row_made none = none-some row_there.0 (sym none ∙ row_there.1)

    module _ (w : Row) (agrees : IfSome m.known (λ (y : Row). y ≡ w)) where
      pub row_still : Some w ≡ m.known
      row_still = ap Some (sym (learned m.known row_there.0 w row_there.1 agrees)) ∙ sym row_there.1

      pub row_cells : (p : ℕ) → p < 64 → slice_get (names_of w.cells.items) p ≡ slice_get (map (λ (cell : Note Proposed). cell.cell) cells) (64 * s + p)
      row_cells p small =
          ap (λ (y : Row). slice_get (names_of y.cells.items) p) (sym (learned m.known row_there.0 w row_there.1 agrees))
          ∙ ap (λ (l : List ℕ). slice_get l p) row_there.2 ∙ (trail.tied s m row_note).2 p small

-- a trail whose notes of a chunk and of a row are written over with ones that know the same
module _ {chunks : List (Note Slots)} {rows : List (Note Row)} {numbers : List ℕ} {cells : List (Note Proposed)} (trail : IsTrail chunks rows numbers cells) (k s : ℕ) (n n' : Note Slots) (m m' : Note Row) (low : s < length numbers) (here : n ≡ get_or chunks k n) (mine : m ≡ get_or rows s m) (chunk_cell : n'.cell ≡ n.cell) (chunk_known : n'.known ≡ n.known) (row_cell : m'.cell ≡ m.cell) (row_known : m'.known ≡ m.known) where
  pub still_trail : IsTrail (set chunks k n') (set rows s m') numbers cells
  still_trail =
      let in_rows : s < length rows = omega (arith, low, trail.many) in
      same_row s m m' (slice_get-get_or rows s m in_rows ∙ ap Some (sym mine)) row_cell row_known
      (more_chunks (λ j names there. ap (λ (l : List (Option (List ℕ))). slice_get l j) (chunk_same chunks k n n' here chunk_known) ∙ there) trail)

  pub still_view : trail_view (set chunks k n') (set rows s m') numbers cells ≡ trail_view chunks rows numbers cells
  still_view =
      let register = chunk_names chunks k n n' here chunk_cell in
      let known = chunk_same chunks k n n' here chunk_known in
      let slots = map-set_same (λ (x : Note Row). x.cell) rows s m' m (row_cell ∙ ap (λ (x : Note Row). x.cell) mine) in
      λ i. record {
        register = register i;
        chunks = known i;
        slots = slots i;
        numbers = numbers;
        cells = map (λ (cell : Note Proposed). cell.cell) cells;
        decided = map decision_known cells;
      }
