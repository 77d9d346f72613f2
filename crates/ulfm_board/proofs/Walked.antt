-- What stays true of a trail when it learns of the register.
use Rattle.std.proofs.Common.{◌≡◌, ◌<◌, ℕ, ◌+◌, ◌*◌, inl, inr, List, [], ◌∷◌, ◌++◌, length, map, set, get_or, ap, sym, ◌∙◌, refl, subst, arith, Option, Some, None, IfSome, slice_get, Global, Result, Ok, Err, IfOk, MatchResult, Bor}
use Rattle.std.specs.Option.{option_and_then, option_map}
use Rattle.std.proofs.Math.Seq.{map-set_same}
use Rattle.std.proofs.lemmas.Bool.{cases_eq}
use Rattle.std.proofs.lemmas.List.{get_or-map, length-append, length-map, length-set}
use Rattle.std.proofs.lemmas.Option.{none-some, same_Some, slice_get-get_or, slice_get-map, slice_get_within}
use Rattle.once_cell.specs.declared.race.note.Note.{Note}
use Rattle.once_cell.specs.Once.{cell_name}
use Rattle.ulfm_base.specs.Lists.{at}
use Rattle.ulfm_board.specs.declared.proposed.Proposed.{Proposed}
use Rattle.ulfm_base.proofs.Longer.{get_cases}
use Rattle.ulfm_board.specs.declared.row.Row.{Row}
use Rattle.ulfm_board.specs.inside.Trail.{IsTrail, Slots, cells_known, chunk_of, names_of, number_known, place_of, slot_name, slots_known}
use Rattle.ulfm_board.proofs.Fronts.{get_behind, get_left, set_elsewhere, set_here}

-- each chunk that was known is known, with the same slots
abbrev pub KeepsChunks : List (Option (List ℕ)) → List (Option (List ℕ)) → Type 0
KeepsChunks old new = (k : ℕ) (names : List ℕ) → at old k (Some names) → at new k (Some names)

-- the name of a slot, by what is known of its chunk
abbrev pub read_slot : ℕ → Option (Option (List ℕ)) → Option ℕ
read_slot slot o = option_and_then (λ (known : Option (List ℕ)). option_and_then (λ (names : List ℕ). slice_get names (place_of slot)) known) o

-- so each slot that had a name has it
pub slot_kept : (old new : List (Option (List ℕ))) (slot name : ℕ) → KeepsChunks old new → slot_name old slot ≡ Some name → slot_name new slot ≡ Some name
slot_kept old new slot name keeps is = by (slice_get old (chunk_of slot)) refl
  where
    by : (o : Option (Option (List ℕ))) → slice_get old (chunk_of slot) ≡ o → slot_name new slot ≡ Some name
    by None here = absurd (none-some name (sym (ap (read_slot slot) here) ∙ is))
    by (Some None) here = absurd (none-some name (sym (ap (read_slot slot) here) ∙ is))
    by (Some (Some names)) here = ap (read_slot slot) (keeps (chunk_of slot) names here) ∙ sym (ap (read_slot slot) here) ∙ is

-- a trail stays one where more of the register is known
pub more_chunks : {old new : List (Note Slots)} {rows : List (Note Row)} {numbers : List ℕ} {cells : List (Note Proposed)} → KeepsChunks (map slots_known old) (map slots_known new) → IsTrail old rows numbers cells → IsTrail new rows numbers cells
more_chunks {old} {new} keeps trail = record {
  many = trail.many;
  each = trail.each;
  named = λ n row there. slot_kept (map slots_known old) (map slots_known new) n row.cell keeps (trail.named n row there);
  numbered = trail.numbered;
  tied = trail.tied;
}

-- a note of a chunk is written over: it knows what was known, and these slots
pub chunk_known : (chunks : List (Note Slots)) (k : ℕ) (n m : Note Slots) (slots : Slots) → k < length chunks → n ≡ get_or chunks k n → m.known ≡ Some slots → IfSome n.known (λ (old : Slots). old ≡ slots)
    → KeepsChunks (map slots_known chunks) (map slots_known (set chunks k m)) × at (map slots_known (set chunks k m)) k (Some (names_of slots.items))
chunk_known chunks k n m slots low here known agrees = (keeps, now)
  where
    told : slots_known m ≡ Some (names_of slots.items)
    told = ap (option_map (λ (s : Slots). names_of s.items)) known

    now : at (map slots_known (set chunks k m)) k (Some (names_of slots.items))
    now = slice_get-map slots_known (set chunks k m) k ∙ ap (option_map slots_known) (set_here chunks k m low) ∙ ap Some told

    was : (o : Option Slots) → n.known ≡ o → (names : List ℕ) → slots_known n ≡ Some names → slots_known m ≡ Some names
    was None is names seen = absurd (none-some names (sym (ap (option_map (λ (s : Slots). names_of s.items)) is) ∙ seen))
    was (Some old) is names seen =
        let same : old ≡ slots = subst (λ (o : Option Slots). IfSome o (λ (x : Slots). x ≡ slots)) is agrees in
        told ∙ ap (λ (s : Slots). Some (names_of s.items)) (sym same) ∙ sym (ap (option_map (λ (s : Slots). names_of s.items)) is) ∙ seen

    keeps : KeepsChunks (map slots_known chunks) (map slots_known (set chunks k m))
    keeps j names there = elim (cases_eq j k) [
      | inl same ↦
          let seen : slots_known n ≡ Some names =
          same_Some (slots_known n) (Some names) (ap Some (ap slots_known here) ∙ ap (option_map slots_known) (sym (slice_get-get_or chunks k n low)) ∙ sym (slice_get-map slots_known chunks k) ∙ ap (slice_get (map slots_known chunks)) (sym same) ∙ there) in
          ap (slice_get (map slots_known (set chunks k m))) same ∙ slice_get-map slots_known (set chunks k m) k ∙ ap (option_map slots_known) (set_here chunks k m low) ∙ ap Some (was n.known refl names seen)
      | inr other ↦
          slice_get-map slots_known (set chunks k m) j ∙ ap (option_map slots_known) (set_elsewhere chunks k j m other) ∙ sym (slice_get-map slots_known chunks j) ∙ there
    ]

-- where it learned nothing, nothing changes
pub chunk_same : (chunks : List (Note Slots)) (k : ℕ) (n m : Note Slots) → n ≡ get_or chunks k n → m.known ≡ n.known → map slots_known (set chunks k m) ≡ map slots_known chunks
chunk_same chunks k n m here same = map-set_same slots_known chunks k m n (ap (option_map (λ (s : Slots). names_of s.items)) same ∙ ap slots_known here)

pub chunk_names : (chunks : List (Note Slots)) (k : ℕ) (n m : Note Slots) → n ≡ get_or chunks k n → m.cell ≡ n.cell → map (λ (x : Note Slots). x.cell) (set chunks k m) ≡ map (λ (x : Note Slots). x.cell) chunks
chunk_names chunks k n m here same = map-set_same (λ (x : Note Slots). x.cell) chunks k m n (same ∙ ap (λ (x : Note Slots). x.cell) here)

-- the trail goes on by one row
pub one_row : {chunks : List (Note Slots)} {rows : List (Note Row)} {numbers : List ℕ} {cells : List (Note Proposed)} (longer : List (Note Proposed)) (row : Row) (note : Note Row) → IsTrail chunks rows numbers cells
    → slot_name (map slots_known chunks) (length numbers) ≡ Some note.cell → note.known ≡ Some row → length row.cells.items ≡ 64
    → map (λ (cell : Note Proposed). cell.cell) longer ≡ map (λ (cell : Note Proposed). cell.cell) cells ++ names_of row.cells.items
    → IsTrail chunks (rows ++ note ∷ []) (numbers ++ row.number ∷ []) longer
one_row {chunks} {rows} {numbers} {cells} longer row note trail next known whole names = record {
  many = length-append rows (note ∷ []) ∙ (let more : length rows + 1 ≡ length (numbers ++ row.number ∷ []) = omega (arith, trail.many, length-append numbers (row.number ∷ [])) in more);
  each = omega (arith, trail.each, length-append numbers (row.number ∷ []), all);
  named = λ n x there. elim (get_cases rows note n x there) [
    | inl old ↦ trail.named n x old
    | inr new ↦ ap (slot_name (map slots_known chunks)) (new.0 ∙ trail.many) ∙ next ∙ ap (λ (y : Note Row). Some y.cell) new.1
  ];
  numbered = λ n x there. elim (get_cases rows note n x there) [
    | inl old ↦ trail.numbered n x old ∙ sym (get_left numbers (row.number ∷ []) n (omega (arith, slice_get_within rows n x old, trail.many)))
    | inr new ↦
        ap number_known (sym new.1) ∙ ap (option_map (λ (r : Row). r.number)) known
        ∙ sym (get_behind numbers (row.number ∷ []) 0 n (let place : n ≡ length numbers + 0 = omega (arith, new.0, trail.many) in place))
  ];
  tied = λ n x there. elim (get_cases rows note n x there) [
    | inl old ↦
        let so = trail.tied n x old in (
          so.0,
          so.1,
          λ p low. so.2 p low ∙ sym (ap (λ (l : List ℕ). slice_get l (64 * n + p)) names ∙ get_left (map (λ (cell : Note Proposed). cell.cell) cells) (names_of row.cells.items) (64 * n + p) (omega (arith, low, slice_get_within rows n x old, trail.many, trail.each, length-map cells (λ (cell : Note Proposed). cell.cell)))),
        )
    | inr new ↦ (
      names_of row.cells.items,
      ap cells_known (sym new.1) ∙ ap (option_map (λ (r : Row). names_of r.cells.items)) known,
      λ p low. sym (ap (λ (l : List ℕ). slice_get l (64 * n + p)) names ∙ get_behind (map (λ (cell : Note Proposed). cell.cell) cells) (names_of row.cells.items) p (64 * n + p) (omega (arith, new.0, trail.many, trail.each, length-map cells (λ (cell : Note Proposed). cell.cell)))),
    )
  ];
}
  where
    all : length longer ≡ length cells + 64
    all =
        sym (length-map longer (λ (cell : Note Proposed). cell.cell)) ∙ ap length names ∙ length-append (map (λ (cell : Note Proposed). cell.cell) cells) (names_of row.cells.items)
        ∙ (let many : length (map (λ (cell : Note Proposed). cell.cell) cells) + length (names_of row.cells.items) ≡ length cells + 64 = omega (arith, length-map cells (λ (cell : Note Proposed). cell.cell), length-map row.cells.items cell_name, whole) in many)

-- the trail goes on by one row, as far as lists are equal to those that are longer by it
pub one_row_more : {chunks : List (Note Slots)} {rows : List (Note Row)} {numbers : List ℕ} {cells : List (Note Proposed)} (rows' : List (Note Row)) (numbers' : List ℕ) (longer : List (Note Proposed)) (row : Row) (note : Note Row) → IsTrail chunks rows numbers cells
    → slot_name (map slots_known chunks) (length numbers) ≡ Some note.cell → note.known ≡ Some row
    → map (λ (cell : Note Proposed). cell.cell) longer ≡ map (λ (cell : Note Proposed). cell.cell) cells ++ names_of row.cells.items
    → rows' ≡ rows ++ note ∷ [] → numbers' ≡ numbers ++ row.number ∷ [] → IsTrail chunks rows' numbers' longer
one_row_more {chunks} rows' numbers' longer row note trail next known names more_rows more_numbers =
    let whole : length row.cells.items ≡ 64 = omega (arith, row.whole, row.cells.ok) in
    subst (λ (t : List (Note Row) × List ℕ). IsTrail chunks t.0 t.1 longer) (λ i. (sym more_rows i, sym more_numbers i)) (one_row longer row note trail next known whole names)

-- a note of a cell is written over with one of the same cell
pub same_cells : {chunks : List (Note Slots)} {rows : List (Note Row)} {numbers : List ℕ} (old new : List (Note Proposed)) → map (λ (cell : Note Proposed). cell.cell) new ≡ map (λ (cell : Note Proposed). cell.cell) old → IsTrail chunks rows numbers old → IsTrail chunks rows numbers new
same_cells old new same trail = record {
  many = trail.many;
  each = sym (length-map new (λ (cell : Note Proposed). cell.cell)) ∙ ap length same ∙ length-map old (λ (cell : Note Proposed). cell.cell) ∙ trail.each;
  named = trail.named;
  numbered = trail.numbered;
  tied = λ n row there. let so = trail.tied n row there in (so.0, so.1, λ p low. so.2 p low ∙ ap (λ (l : List ℕ). slice_get l (64 * n + p)) (sym same));
}

-- a note of a row is written over with one that knows the same
pub same_row : {chunks : List (Note Slots)} {rows : List (Note Row)} {numbers : List ℕ} {cells : List (Note Proposed)} (s : ℕ) (r m : Note Row) → at rows s r → m.cell ≡ r.cell → m.known ≡ r.known → IsTrail chunks rows numbers cells
    → IsTrail chunks (set rows s m) numbers cells
same_row {chunks} {rows} {numbers} {cells} s r m here cell known trail = record {
  many = length-set rows s m ∙ trail.many;
  each = trail.each;
  named = λ n x there. let so = was n x there in trail.named n so.0 so.1 ∙ ap Some (sym so.2);
  numbered = λ n x there. let so = was n x there in ap (option_map (λ (row : Row). row.number)) so.3 ∙ trail.numbered n so.0 so.1;
  tied = λ n x there. let so = was n x there in let tied = trail.tied n so.0 so.1 in (tied.0, ap (option_map (λ (row : Row). names_of row.cells.items)) so.3 ∙ tied.1, tied.2);
}
  where
    was : (n : ℕ) (x : Note Row) → at (set rows s m) n x → (y : Note Row) × at rows n y × (x.cell ≡ y.cell) × (x.known ≡ y.known)
    was n x there = elim (cases_eq n s) [
      | inl same ↦
          let one : m ≡ x = same_Some m x (sym (set_here rows s m (slice_get_within rows s r here)) ∙ ap (slice_get (set rows s m)) (sym same) ∙ there) in
          (r, ap (slice_get rows) same ∙ here, ap (λ (y : Note Row). y.cell) (sym one) ∙ cell, ap (λ (y : Note Row). y.known) (sym one) ∙ known)
      | inr other ↦ (x, sym (set_elsewhere rows s n m other) ∙ there, refl, refl)
    ]

-- notes of a register's chunks are as many, and each is of the chunk at its place
pub many_chunks : (chunks : List (Note Slots)) (cells : List (Global × ℕ)) → map (λ (n : Note Slots). n.cell) chunks ≡ names_of cells → length chunks ≡ length cells
many_chunks chunks cells same = sym (length-map chunks (λ (n : Note Slots). n.cell)) ∙ ap length same ∙ length-map cells cell_name

pub one_chunk : (chunks : List (Note Slots)) (cells : List (Global × ℕ)) (k : ℕ) (n : Note Slots) (x : Global × ℕ) → map (λ (m : Note Slots). m.cell) chunks ≡ names_of cells → k < length chunks → n ≡ get_or chunks k n → x ≡ get_or cells k x → n.cell ≡ cell_name x
one_chunk chunks cells k n x same low here there =
    let low' : k < length cells = omega (arith, low, many_chunks chunks cells same) in
    ap (λ (m : Note Slots). m.cell) here ∙ sym (get_or-map (λ (m : Note Slots). m.cell) chunks k n 0 low) ∙ ap (λ (l : List ℕ). get_or l k 0) same ∙ get_or-map cell_name cells k x 0 low' ∙ ap cell_name (sym there)

-- a note of a chunk is written over by what was answered: what was known is known
pub chunk_kept : {E : Type 0} (chunks : List (Note Slots)) (k : ℕ) (n m : Note Slots) (r : Result (Bor Slots) E) → k < length chunks → n ≡ get_or chunks k n
    → MatchResult r (λ (s : Bor Slots). (m.known ≡ Some s.now) × IfSome n.known (λ (old : Slots). old ≡ s.now)) (λ (e : E). (n.known ≡ None) × (m.known ≡ None)) → KeepsChunks (map slots_known chunks) (map slots_known (set chunks k m))
chunk_kept chunks k n m (Ok s) low here h = (chunk_known chunks k n m s.now low here h.0 h.1).0
chunk_kept chunks k n m (Err e) low here h = λ j names there. ap (λ (l : List (Option (List ℕ))). slice_get l j) (chunk_same chunks k n m here (h.1 ∙ sym h.0)) ∙ there

-- what is answered is known
pub chunk_found : {E : Type 0} (chunks : List (Note Slots)) (k : ℕ) (n m : Note Slots) (r : Result (Bor Slots) E) → k < length chunks → n ≡ get_or chunks k n
    → MatchResult r (λ (s : Bor Slots). (m.known ≡ Some s.now) × IfSome n.known (λ (old : Slots). old ≡ s.now)) (λ (e : E). (n.known ≡ None) × (m.known ≡ None))
    → IfOk r (λ (s : Bor Slots). at (map slots_known (set chunks k m)) k (Some (names_of s.now.items)))
chunk_found chunks k n m (Ok s) low here h = (chunk_known chunks k n m s.now low here h.0 h.1).1
chunk_found chunks k n m (Err e) low here h = tt
