use Rattle.std.proofs.Common.{◌∷◌, ◌++◌, ◌+◌, ◌∙◌, ℕ, [], ap}
use Rattle.ulfm_board.proofs.Goes.{goes_then, length_on, looked_found, looked_past}
use Rattle.ulfm_board.proofs.trail.Trail.reach.Goals as goal

pub returns-then-branch-number-clause-slot : goal.returns-then-branch-number-clause-slot
returns-then-branch-number-clause-slot c =
    looked_found c.loop-slot.self c.go_on.new.self c.in_ok-go_on.field-0 c.args.number c.loop-slot.slot c.in_ok-go_on.ensures.goes_on c.loop-slot.invariant.1 c.loop-slot.invariant.2 c.if-branch-number.true

pub returns-then-branch-number-clause-goes_on : goal.returns-then-branch-number-clause-goes_on
returns-then-branch-number-clause-goes_on c =
    (c.loop-slot.invariant.0.0 ++ c.in_ok-go_on.field-0 ∷ [], goes_then c.args.self.now c.loop-slot.self c.go_on.new.self c.loop-slot.invariant.0.0 (c.in_ok-go_on.field-0 ∷ []) c.loop-slot.invariant.0.1 c.in_ok-go_on.ensures.goes_on)

pub loop-slot-preserved : goal.loop-slot-preserved
loop-slot-preserved c = (
  (c.loop-slot.invariant.0.0 ++ c.in_ok-go_on.field-0 ∷ [], goes_then c.args.self.now c.loop-slot.self c.go_on.new.self c.loop-slot.invariant.0.0 (c.in_ok-go_on.field-0 ∷ []) c.loop-slot.invariant.0.1 c.in_ok-go_on.ensures.goes_on),
  looked_past c.loop-slot.self c.go_on.new.self c.in_ok-go_on.field-0 c.args.number c.in_ok-go_on.ensures.goes_on c.loop-slot.invariant.1 c.if-branch-number.false,
  length_on c.loop-slot.self c.go_on.new.self c.in_ok-go_on.field-0 c.in_ok-go_on.ensures.goes_on ∙ ap (λ (n : ℕ). n + 1) c.loop-slot.invariant.2,
  c.in_ok-go_on.ensures.goes_on.register ∙ c.loop-slot.invariant.3,
)
