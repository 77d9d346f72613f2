-- A trail that goes on, row by row.
use Rattle.std.proofs.Common.{◌≡◌, ◌==◌, ℕ, ◌+◌, ◌*◌, Bool, cond, List, [], ◌∷◌, ◌++◌, get_or, length, map, replicate, set, ap, ◌∙◌, arith, append_assoc, Option, Some, None, Result, Ok, Err, IfOk}
use Rattle.std.specs.declared.alloc.AllocError.{AllocError}
use Rattle.std.proofs.lemmas.Bool.{eq-eqb, ne_eqb}
use Rattle.std.proofs.lemmas.List.{length-append, replicate-append-replicate}
use Rattle.once_cell.specs.declared.race.note.Note.{Note}
use Rattle.ulfm_base.specs.declared.decision.Decision.{Decision}
use Rattle.ulfm_board.specs.declared.proposed.Proposed.{Proposed}
use Rattle.ulfm_board.specs.declared.row.Row.{Row}
use Rattle.ulfm_board.specs.inside.Trail.{GoesOn, Slots, TrailView, slot_of, slots_known, trail_view, with_chunks, decision_known}
use Rattle.ulfm_board.proofs.Slots.{slot_next}
use Rattle.ulfm_board.proofs.Walked.{chunk_names}

-- a trail that goes on twice
pub goes_then : (a b c : TrailView) (one two : List ℕ) → GoesOn a one b → GoesOn b two c → GoesOn a (one ++ two) c
goes_then a b c one two first then = record {
  register = then.register ∙ first.register;
  numbers = then.numbers ∙ ap (λ (l : List ℕ). l ++ two) first.numbers ∙ append_assoc a.numbers one two;
  decided =
      let blanks : List (Option Decision) = replicate (64 * length one) None in
      let more : List (Option Decision) = replicate (64 * length two) None in
      let many : 64 * length one + 64 * length two ≡ 64 * length (one ++ two) = omega (arith, length-append one two) in
      then.decided ∙ ap (λ (l : List (Option Decision)). l ++ more) first.decided ∙ append_assoc a.decided blanks more
      ∙ ap (λ (l : List (Option Decision)). a.decided ++ l) (replicate-append-replicate (64 * length one) (64 * length two) None ∙ ap (λ (n : ℕ). replicate n None) many);
}

-- a trail that goes on by a row, where before it only learned of a chunk
pub went_on : (a m b : TrailView) (chunks : List (Option (List ℕ))) → m ≡ with_chunks a chunks → (r : Result ℕ AllocError) → IfOk r (λ (found : ℕ). GoesOn m (found ∷ []) b) → IfOk r (λ (found : ℕ). GoesOn a (found ∷ []) b)
went_on a m b chunks only (Ok found) goes = record {
  register = goes.register ∙ ap (λ (t : TrailView). t.register) only;
  numbers = goes.numbers ∙ ap (λ (t : TrailView). t.numbers ++ found ∷ []) only;
  decided = goes.decided ∙ ap (λ (t : TrailView). t.decided ++ replicate (64 * length (found ∷ [])) None) only;
}
went_on a m b chunks only (Err e) goes = tt

-- the next row is the one that is looked for, or it is not
pub looked_at : (a b : TrailView) (found number : ℕ) → GoesOn a (found ∷ []) b → slot_of a.numbers number ≡ None → slot_of b.numbers number ≡ cond (found == number) (Some (length a.numbers)) None
looked_at a b found number goes none = ap (λ (l : List ℕ). slot_of l number) goes.numbers ∙ slot_next a.numbers found number none

pub length_on : (a b : TrailView) (found : ℕ) → GoesOn a (found ∷ []) b → length b.numbers ≡ length a.numbers + 1
length_on a b found goes = ap length goes.numbers ∙ length-append a.numbers (found ∷ [])

-- it is the one
pub looked_found : (a b : TrailView) (found number slot : ℕ) → GoesOn a (found ∷ []) b → slot_of a.numbers number ≡ None → length a.numbers ≡ slot → found ≡ number → slot_of b.numbers number ≡ Some slot
looked_found a b found number slot goes none many same =
    looked_at a b found number goes none ∙ ap (λ (t : Bool). cond t (Some (length a.numbers)) None) (eq-eqb found number same) ∙ ap Some many

-- it is not
pub looked_past : (a b : TrailView) (found number : ℕ) → GoesOn a (found ∷ []) b → slot_of a.numbers number ≡ None → (found ≡ number → ⊥) → slot_of b.numbers number ≡ None
looked_past a b found number goes none other =
    looked_at a b found number goes none ∙ ap (λ (t : Bool). cond t (Some (length a.numbers)) None) (ne_eqb found number other)

-- a note of a chunk is written over: what is seen of the trail
pub chunk_only : (chunks : List (Note Slots)) (k : ℕ) (n m : Note Slots) (rows : List (Note Row)) (numbers : List ℕ) (cells : List (Note Proposed)) → n ≡ get_or chunks k n → m.cell ≡ n.cell
    → trail_view (set chunks k m) rows numbers cells ≡ with_chunks (trail_view chunks rows numbers cells) (map slots_known (set chunks k m))
chunk_only chunks k n m rows numbers cells here same =
    let names = chunk_names chunks k n m here same in
    λ i. record {
      register = names i;
      chunks = map slots_known (set chunks k m);
      slots = map (λ (note : Note Row). note.cell) rows;
      numbers = numbers;
      cells = map (λ (cell : Note Proposed). cell.cell) cells;
      decided = map decision_known cells;
    }
