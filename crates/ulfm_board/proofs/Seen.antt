-- What is seen of a topic, where a trail goes on, and where a decision becomes known.
use Rattle.std.proofs.Common.{◌≡◌, ◌≢◌, ◌==◌, ◌<◌, ◌≤◌, ℕ, ◌+◌, ◌-◌, ◌*◌, ◌/◌, ◌%◌, inl, inr, Bool, cond, List, ◌++◌, length, set, get_or, replicate, ap, sym, ◌∙◌, refl, arith, Option, Some, None, slice_get}
use Rattle.std.proofs.lemmas.Bool.{cases_eq, cases_lt, eq-eqb, ne_eqb}
use Rattle.std.proofs.lemmas.List.{get_or_append_left, get_or-append_right, get_or-set_same, get_or-set_other}
use Rattle.std.proofs.lemmas.Option.{same_Some}
use Rattle.ulfm_base.specs.declared.decision.Decision.{Decision}
use Rattle.ulfm_base.proofs.Places.{get_or-blank}
use Rattle.ulfm_board.specs.inside.Trail.{cell_in, seen, slot_of}
use Rattle.ulfm_board.proofs.Fronts.{get_left}
use Rattle.ulfm_board.proofs.Slots.{slot_first, none_first, slot_inside, slot_stays}

-- rows of which nothing is known add nothing
pub seen_longer : (numbers more : List ℕ) (decided : List (Option Decision)) → length decided ≡ 64 * length numbers → (q : ℕ) → seen (numbers ++ more) (decided ++ replicate (64 * length more) None) q ≡ seen numbers decided q
seen_longer numbers more decided whole q = at (slot_of numbers (q / 64)) refl
  where
    beyond : slot_of numbers (q / 64) ≡ None → (o : Option ℕ) → slot_of (numbers ++ more) (q / 64) ≡ o → cell_in (decided ++ replicate (64 * length more) None) o (q % 64) ≡ None
    beyond none None is = refl
    beyond none (Some slot) is =
        let past : length numbers ≤ slot = elim (cases_lt slot (length numbers)) [
          | inl low ↦ absurd (none_first numbers (q / 64) none slot (sym (get_left numbers more slot low) ∙ (slot_first (numbers ++ more) (q / 64) slot is).here))
          | inr high ↦ high
        ] in
        let behind : length decided ≤ 64 * slot + q % 64 = omega (arith, whole, past) in
        get_or-append_right decided (replicate (64 * length more) None) (length decided) (64 * slot + q % 64) None refl behind ∙ get_or-blank (64 * length more) (64 * slot + q % 64 - length decided) None

    at : (o : Option ℕ) → slot_of numbers (q / 64) ≡ o → seen (numbers ++ more) (decided ++ replicate (64 * length more) None) q ≡ seen numbers decided q
    at None is =
        beyond is (slot_of (numbers ++ more) (q / 64)) refl ∙ sym (ap (λ (o : Option ℕ). cell_in decided o (q % 64)) is)
    at (Some slot) is =
        let inside = slot_inside numbers (q / 64) slot is in
        let low : 64 * slot + q % 64 < length decided = omega (arith, whole, inside) in
        ap (λ (o : Option ℕ). cell_in (decided ++ replicate (64 * length more) None) o (q % 64)) (slot_stays numbers more (q / 64) slot is)
        ∙ get_or_append_left decided (replicate (64 * length more) None) None (64 * slot + q % 64) low
        ∙ sym (ap (λ (o : Option ℕ). cell_in decided o (q % 64)) is)

-- what is seen at a topic's own cell
pub seen_here : (numbers : List ℕ) (decided : List (Option Decision)) (q slot : ℕ) → slot_of numbers (q / 64) ≡ Some slot → seen numbers decided q ≡ get_or decided (64 * slot + q % 64) None
seen_here numbers decided q slot is = ap (λ (o : Option ℕ). cell_in decided o (q % 64)) is

-- a decision becomes known at the cell of a topic: it is seen of this topic alone
pub seen_set : (numbers : List ℕ) (decided : List (Option Decision)) (q slot : ℕ) (held : Decision) → slot_of numbers (q / 64) ≡ Some slot → length decided ≡ 64 * length numbers
    → (r : ℕ) → seen numbers (set decided (64 * slot + q % 64) (Some held)) r ≡ cond (r == q) (Some held) (seen numbers decided r)
seen_set numbers decided q slot held is whole r = elim (cases_eq r q) [
  | inl same ↦
      let inside = slot_inside numbers (q / 64) slot is in
      let low : 64 * slot + q % 64 < length decided = omega (arith, whole, inside) in
      ap (seen numbers (set decided (64 * slot + q % 64) (Some held))) same ∙ seen_here numbers (set decided (64 * slot + q % 64) (Some held)) q slot is
      ∙ get_or-set_same decided (64 * slot + q % 64) (Some held) None low
      ∙ sym (ap (λ (b : Bool). cond b (Some held) (seen numbers decided r)) (eq-eqb r q same))
  | inr other ↦ at other (slot_of numbers (r / 64)) refl ∙ sym (ap (λ (b : Bool). cond b (Some held) (seen numbers decided r)) (ne_eqb r q other))
]
  where
    at : r ≢ q → (o : Option ℕ) → slot_of numbers (r / 64) ≡ o → seen numbers (set decided (64 * slot + q % 64) (Some held)) r ≡ seen numbers decided r
    at other None gone = ap (λ (o : Option ℕ). cell_in (set decided (64 * slot + q % 64) (Some held)) o (r % 64)) gone ∙ sym (ap (λ (o : Option ℕ). cell_in decided o (r % 64)) gone)
    at other (Some s) so =
        let apart : 64 * s + r % 64 ≢ 64 * slot + q % 64 = λ same.
        let places : r % 64 ≡ q % 64 = omega (arith, same) in
        let slots : s ≡ slot = omega (arith, same, places) in
        let rows : r / 64 ≡ q / 64 = same_Some (r / 64) (q / 64) (sym (slot_first numbers (r / 64) s so).here ∙ ap (slice_get numbers) slots ∙ (slot_first numbers (q / 64) slot is).here) in
        let one : r ≡ q = omega (arith, places, rows) in
        other one in
        seen_here numbers (set decided (64 * slot + q % 64) (Some held)) r s so ∙ get_or-set_other decided (64 * slot + q % 64) (64 * s + r % 64) (Some held) None apart
        ∙ sym (seen_here numbers decided r s so)
