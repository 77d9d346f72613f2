-- Two seats of one board know no two decisions on one topic.
use Rattle.std.proofs.Common.{◌≡◌, ◌<◌, ℕ, ◌/◌, ◌%◌, inl, inr, length, ap, sym, ◌∙◌, refl, subst, arith, Option, Some, None}
use Rattle.std.proofs.lemmas.Bool.{cases_lt}
use Rattle.ulfm_base.specs.declared.decision.Decision.{Decision}
use Rattle.ulfm_base.specs.declared.topic.Topic.{Topic}
use Rattle.ulfm_board.specs.Known.{BothAgree, known_at, number_of}
use Rattle.ulfm_board.specs.inside.Trail.{TrailView, TrailsAgree, cell_in, known_of, seen, slot_of}
use Rattle.ulfm_board.proofs.Listed.{get_known}
use Rattle.ulfm_board.proofs.Slots.{slot_first, slot_inside}

none_agree : (o : Option Decision) → BothAgree o None
none_agree None = tt
none_agree (Some d) = tt

module _ (a b : TrailView) (agree : TrailsAgree a b) (q : ℕ) where
  -- the first slot of a number is the same in both
  one_first : (s t : ℕ) → slot_of a.numbers (q / 64) ≡ Some s → slot_of b.numbers (q / 64) ≡ Some t → s ≡ t
  one_first s t here there =
      let mine = slot_first a.numbers (q / 64) s here in
      let theirs = slot_first b.numbers (q / 64) t there in
      let low = slot_inside a.numbers (q / 64) s here in
      let low' = slot_inside b.numbers (q / 64) t there in
      elim (cases_lt s t) [
        | inl less ↦ absurd (theirs.before s less (sym (agree.rows s low (omega (arith, less, low'))) ∙ mine.here))
        | inr up ↦ elim (cases_lt t s) [
          | inl less ↦ absurd (mine.before t less (agree.rows t (omega (arith, less, low)) low' ∙ theirs.here))
          | inr more ↦ let same : s ≡ t = omega (arith, up, more) in same
        ]
      ]

  both_seen : BothAgree (seen a.numbers a.decided q) (seen b.numbers b.decided q)
  both_seen = at (slot_of a.numbers (q / 64)) (slot_of b.numbers (q / 64)) refl refl
    where
      at : (o p : Option ℕ) → slot_of a.numbers (q / 64) ≡ o → slot_of b.numbers (q / 64) ≡ p → BothAgree (cell_in a.decided (slot_of a.numbers (q / 64)) (q % 64)) (cell_in b.decided (slot_of b.numbers (q / 64)) (q % 64))
      at None p gone here = subst (λ (o : Option ℕ). BothAgree (cell_in a.decided o (q % 64)) (cell_in b.decided (slot_of b.numbers (q / 64)) (q % 64))) (sym gone) tt
      at (Some s) None here gone =
          subst (λ (o : Option ℕ). BothAgree (cell_in a.decided (slot_of a.numbers (q / 64)) (q % 64)) (cell_in b.decided o (q % 64))) (sym gone) (none_agree (cell_in a.decided (slot_of a.numbers (q / 64)) (q % 64)))
      at (Some s) (Some t) here there =
          let same = one_first s t here there in
          let small : q % 64 < 64 = omega arith in
          let cells = agree.cells s (q % 64) (slot_inside a.numbers (q / 64) s here) (subst (λ (n : ℕ). n < length b.numbers) (sym same) (slot_inside b.numbers (q / 64) t there)) small in
          subst (λ (x : Option ℕ × Option ℕ). BothAgree (cell_in a.decided x.0 (q % 64)) (cell_in b.decided x.1 (q % 64))) (λ i. (sym here i, (ap Some same ∙ sym there) i)) cells

-- so what they know of each topic agrees
pub seats_agree : (a b : TrailView) → TrailsAgree a b → (topic : Topic) → BothAgree (known_at (known_of a) topic) (known_at (known_of b) topic)
seats_agree a b agree topic =
    subst (λ (t : Option Decision × Option Decision). BothAgree t.0 t.1) (λ i. (sym (get_known a (number_of topic)) i, sym (get_known b (number_of topic)) i)) (both_seen a b agree (number_of topic))
