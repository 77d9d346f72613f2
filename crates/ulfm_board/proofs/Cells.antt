-- A cell of a row that was walked through, and what is known of it.
use Rattle.std.proofs.Common.{◌≡◌, ◌<◌, ℕ, List, length, map, set, get_or, ap, sym, ◌∙◌, subst, arith, Global, Option, Some, None, Result, Ok, Err, IfOk, OnErr, slice_get}
use Rattle.std.specs.Option.{option_map}
use Rattle.std.specs.declared.alloc.AllocError.{AllocError}
use Rattle.std.proofs.Math.Seq.{map-set_same}
use Rattle.std.proofs.lemmas.List.{map-set}
use Rattle.std.proofs.lemmas.Option.{same_Some, slice_get-get_or, slice_get-map}
use Rattle.once_cell.specs.declared.race.note.Note.{Note}
use Rattle.once_cell.specs.Once.{cell_name}
use Rattle.ulfm_base.specs.declared.decision.Decision.{Decision}
use Rattle.ulfm_board.specs.declared.proposed.Proposed.{Proposed}
use Rattle.ulfm_board.specs.declared.row.Row.{Row}
use Rattle.ulfm_board.specs.Known.{Agrees}
use Rattle.ulfm_board.specs.inside.Trail.{IsTrail, KnowsCell, Slots, TrailView, names_of, trail_view, decision_known}
use Rattle.ulfm_board.proofs.Fronts.{view_at}
use Rattle.ulfm_board.proofs.Walked.{same_cells}

-- the cell at a place of a row is the one that is noted there
pub cell_of_row : (cells : List (Note Proposed)) (row : Row) (k p : ℕ) (n : Note Proposed) (x : Global × ℕ) → k < length cells → p < 64 → n ≡ get_or cells k n → x ≡ get_or row.cells.items p x
    → slice_get (names_of row.cells.items) p ≡ slice_get (map (λ (c : Note Proposed). c.cell) cells) k → n.cell ≡ cell_name x
cell_of_row cells row k p n x low small here there tied =
    let inside : p < length row.cells.items = omega (arith, small, row.whole, row.cells.ok) in
    same_Some n.cell (cell_name x) (
    ap (λ (c : Note Proposed). Some c.cell) here
    ∙ sym (slice_get-map (λ (c : Note Proposed). c.cell) cells k ∙ ap (option_map (λ (c : Note Proposed). c.cell)) (slice_get-get_or cells k n low))
    ∙ sym tied ∙ slice_get-map cell_name row.cells.items p ∙ ap (option_map cell_name) (slice_get-get_or row.cells.items p x inside)
    ∙ ap (λ (c : Global × ℕ). Some (cell_name c)) (sym there))

-- a note of a cell is written over by what was answered there
module _ (a : TrailView) (chunks : List (Note Slots)) (rows : List (Note Row)) (numbers : List ℕ) (cells : List (Note Proposed)) (is : trail_view chunks rows numbers cells ≡ a) (k : ℕ) (n m : Note Proposed) (low : k < length cells) (here : n ≡ get_or cells k n) (cell : m.cell ≡ n.cell) where
  names_stay : map (λ (c : Note Proposed). c.cell) (set cells k m) ≡ map (λ (c : Note Proposed). c.cell) cells
  names_stay = map-set_same (λ (c : Note Proposed). c.cell) cells k m n (cell ∙ ap (λ (c : Note Proposed). c.cell) here)

  pub trail_stays : IsTrail chunks rows numbers cells → IsTrail chunks rows numbers (set cells k m)
  trail_stays trail = same_cells cells (set cells k m) names_stay trail

  decided_is : get_or a.decided k None ≡ decision_known n
  decided_is = ap (λ (t : TrailView). get_or t.decided k None) (sym is) ∙ view_at decision_known cells k n None (slice_get-get_or cells k n low ∙ ap Some (sym here))

  pub held_of : (r : Result Decision AllocError) → IfOk r (λ (held : Decision). (decision_known m ≡ Some held) × Agrees (decision_known n) held)
      → IfOk r (λ (held : Decision). Agrees (get_or a.decided k None) held × KnowsCell a k held (trail_view chunks rows numbers (set cells k m)))
  held_of (Ok held) h = (
    subst (λ (o : Option Decision). Agrees o held) (sym decided_is) h.1,
    record {
      register = ap (λ (t : TrailView). t.register) is;
      numbers = ap (λ (t : TrailView). t.numbers) is;
      decided =
          map-set decision_known cells k m ∙ ap (λ (o : Option Decision). set (map decision_known cells) k o) h.0
          ∙ ap (λ (t : TrailView). set t.decided k (Some held)) is;
    },
  )
  held_of (Err e) h = tt

  pub starved_of : (r : Result Decision AllocError) → OnErr r ((decision_known n ≡ None) × (decision_known m ≡ None)) → OnErr r ((get_or a.decided k None ≡ None) × (trail_view chunks rows numbers (set cells k m) ≡ a))
  starved_of (Ok held) h = tt
  starved_of (Err e) h =
      let known : map decision_known (set cells k m) ≡ map decision_known cells =
      map-set_same decision_known cells k m n (h.1 ∙ sym h.0 ∙ ap decision_known here) in (
        decided_is ∙ h.0,
        view known ∙ is,
      )
    where
      view : map decision_known (set cells k m) ≡ map decision_known cells → trail_view chunks rows numbers (set cells k m) ≡ trail_view chunks rows numbers cells
      view known = λ i. record {
        register = map (λ (note : Note Slots). note.cell) chunks;
        chunks = (trail_view chunks rows numbers cells).chunks;
        slots = map (λ (note : Note Row). note.cell) rows;
        numbers = numbers;
        cells = names_stay i;
        decided = known i;
      }
