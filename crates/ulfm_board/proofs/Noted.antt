-- Notes are made, one after another.
use Rattle.std.proofs.Common.{◌≡◌, ◌<◌, ℕ, ◌+◌, List, [], ◌∷◌, ◌++◌, get_or, length, map, replicate, take, ap, sym, ◌∙◌, append_assoc, Global, Option, None}
use Rattle.std.specs.Option.{option_map}
use Rattle.std.proofs.lemmas.List.{get_or-map, length-map, map-append, replicate-append-replicate, take_more}
use Rattle.once_cell.specs.declared.race.note.Note.{Note}
use Rattle.once_cell.specs.Once.{cell_name}
use Rattle.ulfm_base.specs.declared.decision.Decision.{Decision}
use Rattle.ulfm_board.specs.declared.proposed.Proposed.{Proposed}
use Rattle.ulfm_board.specs.inside.Trail.{Slots, names_of, slots_known, decision_known}

-- the names of one more cell
name_next : (cells : List (Global × ℕ)) (k : ℕ) (x : Global × ℕ) → k < length cells → x ≡ get_or cells k x → take (k + 1) (names_of cells) ≡ take k (names_of cells) ++ cell_name x ∷ []
name_next cells k x low here =
    let low' : k < length (names_of cells) = rw length-map low in
    take_more (names_of cells) k 0 low' ∙ ap (λ (n : ℕ). take k (names_of cells) ++ n ∷ []) (get_or-map cell_name cells k x 0 low ∙ ap cell_name (sym here))

-- one more note of a chunk, of which nothing is known
pub chunk_noted : (notes : List (Note Slots)) (cells : List (Global × ℕ)) (k : ℕ) (note : Note Slots) (x : Global × ℕ) → k < length cells → x ≡ get_or cells k x → note.cell ≡ cell_name x → note.known ≡ None
    → map (λ (n : Note Slots). n.cell) notes ≡ take k (names_of cells) → map slots_known notes ≡ replicate k None
    → (map (λ (n : Note Slots). n.cell) (notes ++ note ∷ []) ≡ take (k + 1) (names_of cells)) × (map slots_known (notes ++ note ∷ []) ≡ replicate (k + 1) None)
chunk_noted notes cells k note x low here cell unknown names known = (
  map-append (λ (n : Note Slots). n.cell) notes (note ∷ []) ∙ ap (λ (l : List ℕ). l ++ note.cell ∷ []) names ∙ ap (λ (n : ℕ). take k (names_of cells) ++ n ∷ []) cell ∙ sym (name_next cells k x low here),
  map-append slots_known notes (note ∷ []) ∙ ap (λ (l : List (Option (List ℕ))). l ++ slots_known note ∷ []) known
      ∙ ap (λ (o : Option Slots). replicate k None ++ option_map (λ (s : Slots). names_of s.items) o ∷ []) unknown ∙ replicate-append-replicate k 1 None,
)

-- one more note of a cell, of which nothing is known
pub cell_noted : (start : List ℕ) (blanks : List (Option Decision)) (notes : List (Note Proposed)) (cells : List (Global × ℕ)) (k : ℕ) (note : Note Proposed) (x : Global × ℕ) → k < length cells → x ≡ get_or cells k x → note.cell ≡ cell_name x → note.known ≡ None
    → map (λ (n : Note Proposed). n.cell) notes ≡ start ++ take k (names_of cells) → map decision_known notes ≡ blanks ++ replicate k None
    → (map (λ (n : Note Proposed). n.cell) (notes ++ note ∷ []) ≡ start ++ take (k + 1) (names_of cells)) × (map decision_known (notes ++ note ∷ []) ≡ blanks ++ replicate (k + 1) None)
cell_noted start blanks notes cells k note x low here cell unknown names known = (
  map-append (λ (n : Note Proposed). n.cell) notes (note ∷ []) ∙ ap (λ (l : List ℕ). l ++ note.cell ∷ []) names ∙ append_assoc start (take k (names_of cells)) (note.cell ∷ [])
      ∙ ap (λ (n : ℕ). start ++ (take k (names_of cells) ++ n ∷ [])) cell ∙ ap (λ (l : List ℕ). start ++ l) (sym (name_next cells k x low here)),
  map-append decision_known notes (note ∷ []) ∙ ap (λ (l : List (Option Decision)). l ++ decision_known note ∷ []) known ∙ append_assoc blanks (replicate k None) (decision_known note ∷ [])
      ∙ ap (λ (o : Option Proposed). blanks ++ (replicate k None ++ option_map (λ (p : Proposed). p.decision) o ∷ [])) unknown ∙ ap (λ (l : List (Option Decision)). blanks ++ l) (replicate-append-replicate k 1 None),
)
