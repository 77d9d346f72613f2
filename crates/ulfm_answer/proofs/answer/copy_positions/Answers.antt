use Rattle.std.proofs.Common.{◌≡◌, ◌+◌, ◌≤◌, ◌++◌, length, ap, ◌∙◌, arith}
use Rattle.ulfm_answer.proofs.Positions.{same_positions}
use Rattle.ulfm_answer.proofs.answer.copy_positions.Goals as goal

pub returns : goal.returns
returns c =
    let old = c.args.positions.now in
    let places : c.in_ok-copy.copy.capacity ≡ old.capacity = omega (arith, c.in_ok-copy.ensures.capacity, c.capacity.ensures.value, c.capacity.ensures.at_least_inline) in
    let room : length c.in_ok-copy.copy.items + length c.in_ok-items.items.items ≤ c.in_ok-copy.copy.capacity =
    omega (arith, places, ap length c.in_ok-copy.ensures.items, ap length c.in_ok-items.ensures.ok, ap length c.as_slice.ensures, c.len.ensures.fits, c.len.ensures.value) in
    same_positions old c.append.new.self
    (c.in_ok-append.ensures.ok ∙ ap (λ xs. xs ++ c.in_ok-items.items.items) c.in_ok-copy.ensures.items ∙ c.in_ok-items.ensures.ok ∙ c.as_slice.ensures)
    (c.append.ensures.had_room room ∙ places)
