-- What two trails along one register have in common.
use Rattle.std.proofs.Common.{◌≡◌, ◌<◌, ℕ, ◌+◌, ◌*◌, ◌/◌, ◌%◌, List, length, map, ap, sym, ◌∙◌, subst, arith, Option, Some, None, IfSome, slice_get}
use Rattle.std.specs.Option.{option_map}
use Rattle.std.proofs.lemmas.Option.{same_Some, slice_get-map, slice_get_within}
use Rattle.once_cell.specs.declared.race.note.Note.{Note}
use Rattle.ulfm_base.specs.Lists.{at}
use Rattle.ulfm_base.specs.declared.decision.Decision.{Decision}
use Rattle.ulfm_board.specs.declared.proposed.Proposed.{Proposed}
use Rattle.ulfm_base.proofs.Places.{there}
use Rattle.ulfm_board.specs.Known.{BothAgree}
use Rattle.ulfm_board.specs.declared.row.Row.{Row}
use Rattle.ulfm_board.specs.inside.Trail.{IsTrail, Slots, TrailsAgree, chunk_of, names_of, place_of, trail_view, decision_known}
use Rattle.ulfm_board.proofs.Fronts.{same_view, view_at}
use Rattle.ulfm_board.proofs.Rows.{chunk_there, known_view}

-- the notes at each place know no two values
abbrev pub AgreeAt : {X : Type 0} → List (Note X) → List (Note X) → Type 0
AgreeAt {X} xs ys = (k : ℕ) (x y : Note X) → at xs k x → at ys k y → IfSome x.known (λ v. IfSome y.known (λ w. w ≡ v))

-- the notes at each place are of one cell
abbrev pub OneCell : {X : Type 0} → List (Note X) → List (Note X) → Type 0
OneCell {X} xs ys = (k : ℕ) (x y : Note X) → at xs k x → at ys k y → y.cell ≡ x.cell

-- two that know no two values know the same, where both know one
both_same : {X : Type 0} (o p : Option X) (v w : X) → IfSome o (λ v. IfSome p (λ w. w ≡ v)) → o ≡ Some v → p ≡ Some w → w ≡ v
both_same {X} o p v w agree one other =
    subst (λ (t : Option X). IfSome t (λ y. y ≡ v)) other (subst (λ (t : Option X). IfSome t (λ x. IfSome p (λ y. y ≡ x))) one agree)

-- two that know no two proposals know no two decisions
both_decided : (o p : Option Proposed) → IfSome o (λ v. IfSome p (λ w. w ≡ v)) → BothAgree (option_map (λ (x : Proposed). x.decision) o) (option_map (λ (x : Proposed). x.decision) p)
both_decided None p agree = tt
both_decided (Some v) None agree = tt
both_decided (Some v) (Some w) agree = ap (λ (x : Proposed). x.decision) agree

-- the name of the cell at a place
cell_there : (cs : List (Note Proposed)) (i j : ℕ) (z : Note Proposed) → i ≡ j → at cs j z → slice_get (map (λ (c : Note Proposed). c.cell) cs) i ≡ Some z.cell
cell_there cs i j z same is =
    ap (slice_get (map (λ (c : Note Proposed). c.cell) cs)) same ∙ slice_get-map (λ (c : Note Proposed). c.cell) cs j ∙ ap (option_map (λ (c : Note Proposed). c.cell)) is

pub one_register : (xs ys : List (Note Slots)) → map (λ (n : Note Slots). n.cell) ys ≡ map (λ (n : Note Slots). n.cell) xs → OneCell xs ys
one_register xs ys same k x y here other = same_view (λ (n : Note Slots). n.cell) xs ys k x y same here other

module _ {chunks chunks' : List (Note Slots)} {rows rows' : List (Note Row)} {numbers numbers' : List ℕ} {cells cells' : List (Note Proposed)} (a : IsTrail chunks rows numbers cells) (b : IsTrail chunks' rows' numbers' cells') (agree_chunks : AgreeAt chunks chunks') where
  pub one_slot : OneCell rows rows'
  one_slot n x y here other =
      let mine = chunk_there chunks n x.cell (a.named n x here) in
      let theirs = chunk_there chunks' n y.cell (b.named n y other) in
      let same = both_same mine.0.known theirs.0.known mine.1 theirs.1 (agree_chunks (chunk_of n) mine.0 theirs.0 mine.2 theirs.2) mine.3 theirs.3 in
      same_Some y.cell x.cell (sym theirs.4 ∙ ap (λ (s : Slots). slice_get (names_of s.items) (place_of n)) same ∙ mine.4)

  module _ (agree_rows : AgreeAt rows rows') where
    -- at one slot both know one row
    row_same : (n : ℕ) (x y : Note Row) → at rows n x → at rows' n y → x.known ≡ y.known
    row_same n x y here other =
        let mine = known_view (λ (r : Row). names_of r.cells.items) x.known (a.tied n x here).0 (a.tied n x here).1 in
        let theirs = known_view (λ (r : Row). names_of r.cells.items) y.known (b.tied n y other).0 (b.tied n y other).1 in
        mine.1 ∙ ap Some (sym (both_same x.known y.known mine.0 theirs.0 (agree_rows n x y here other) mine.1 theirs.1)) ∙ sym theirs.1

    same_numbers : (n : ℕ) → n < length numbers → n < length numbers' → slice_get numbers n ≡ slice_get numbers' n
    same_numbers n low low' =
        let mine = there rows n (omega (arith, low, a.many)) in
        let theirs = there rows' n (omega (arith, low', b.many)) in
        sym (a.numbered n mine.0 mine.1) ∙ ap (option_map (λ (r : Row). r.number)) (row_same n mine.0 theirs.0 mine.1 theirs.1) ∙ b.numbered n theirs.0 theirs.1

    pub one_cell : OneCell cells cells'
    one_cell j x y here other =
        let n = j / 64 in
        let p = j % 64 in
        let low : p < 64 = omega arith in
        let parts : 64 * n + p ≡ j = omega arith in
        let mine = there rows n (omega (arith, slice_get_within cells j x here, a.each, a.many)) in
        let theirs = there rows' n (omega (arith, slice_get_within cells' j y other, b.each, b.many)) in
        let tied = a.tied n mine.0 mine.1 in
        let tied' = b.tied n theirs.0 theirs.1 in
        let names : tied.0 ≡ tied'.0 =
        same_Some tied.0 tied'.0 (sym tied.1 ∙ ap (option_map (λ (r : Row). names_of r.cells.items)) (row_same n mine.0 theirs.0 mine.1 theirs.1) ∙ tied'.1) in
        same_Some y.cell x.cell (sym (tied'.2 p low ∙ cell_there cells' (64 * n + p) j y parts other) ∙ ap (λ (l : List ℕ). slice_get l p) (sym names) ∙ tied.2 p low ∙ cell_there cells (64 * n + p) j x parts here)

    -- so they go through the same rows, and know no two decisions of one cell
    pub trails_agree : AgreeAt cells cells' → TrailsAgree (trail_view chunks rows numbers cells) (trail_view chunks' rows' numbers' cells')
    trails_agree agree_cells = record {
      rows = same_numbers;
      cells = λ n p low low' small.
          let mine = there cells (64 * n + p) (omega (arith, low, small, a.each)) in
          let theirs = there cells' (64 * n + p) (omega (arith, low', small, b.each)) in
          let seen = view_at decision_known cells (64 * n + p) mine.0 None mine.1 in
          let seen' = view_at decision_known cells' (64 * n + p) theirs.0 None theirs.1 in
          subst (λ (t : Option Decision × Option Decision). BothAgree t.0 t.1) (λ i. (sym seen i, sym seen' i)) (both_decided mine.0.known theirs.0.known (agree_cells (64 * n + p) mine.0 theirs.0 mine.1 theirs.1));
    }
