use Rattle.std.proofs.Common.{◌≡◌, ◌<◌, ap, sym, ◌∙◌, arith, inl, inr, length, slice_get, Some}
use Rattle.std.proofs.lemmas.Bool.{cases_eq}
use Rattle.std.proofs.lemmas.Option.{same_Some, slice_get-get_or, slice_get_within}
use Rattle.ulfm_board.specs.inside.Trail.{TrailView}
use Rattle.ulfm_board.proofs.Slots.{first_slot, no_slot}
use Rattle.ulfm_board.proofs.trail.Trail.slot_of.Goals as goal

pub returns-then-index-number : goal.returns-then-index-number
returns-then-index-number c =
    let low : c.loop-slot.slot < length c.self.inside.numbers.items = omega (arith, c.loop-slot-test.true, c.len-slot-end.ensures, c.self.inside.numbers.ok) in
    let here : slice_get c.args.self.now.numbers c.loop-slot.slot ≡ Some c.args.number =
    ap (λ (t : TrailView). slice_get t.numbers c.loop-slot.slot) (sym c.self.view_is) ∙ slice_get-get_or c.self.inside.numbers.items c.loop-slot.slot c.index.result.now low
    ∙ ap Some (sym c.index.ensures ∙ c.if-index-number.true) in
    sym (first_slot c.args.self.now.numbers c.args.number c.loop-slot.slot here (λ k below. c.loop-slot.invariant k below))

pub loop-slot-preserved : goal.loop-slot-preserved
loop-slot-preserved c =
    let low : c.loop-slot.slot < length c.self.inside.numbers.items = omega (arith, c.loop-slot-test.true, c.len-slot-end.ensures, c.self.inside.numbers.ok) in
    let here : slice_get c.args.self.now.numbers c.loop-slot.slot ≡ Some c.index.result.now =
    ap (λ (t : TrailView). slice_get t.numbers c.loop-slot.slot) (sym c.self.view_is) ∙ slice_get-get_or c.self.inside.numbers.items c.loop-slot.slot c.index.result.now low ∙ ap Some (sym c.index.ensures) in
    λ k below there. elim (cases_eq k c.loop-slot.slot) [
      | inl same ↦
          let one = same_Some c.index.result.now c.args.number (sym here ∙ ap (slice_get c.args.self.now.numbers) (sym same) ∙ there) in
          c.if-index-number.false one
      | inr other ↦ c.loop-slot.invariant k (omega (arith, below, other)) there
    ]

pub returns : goal.returns
returns c =
    sym (no_slot c.args.self.now.numbers c.args.number (λ k there.
    let within = slice_get_within c.self.inside.numbers.items k c.args.number (ap (λ (t : TrailView). slice_get t.numbers k) c.self.view_is ∙ there) in
    c.loop-slot.invariant k (omega (arith, within, c.loop-slot-test.false, c.len-slot-end.ensures, c.self.inside.numbers.ok)) there))
