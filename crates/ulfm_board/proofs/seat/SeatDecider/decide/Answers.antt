use Rattle.std.proofs.Common.{◌≡◌, ◌∙◌, [], Some, ap, sym}
use Rattle.ulfm_board.specs.Known.{row_of}
use Rattle.ulfm_board.specs.inside.Trail.{names_of, slot_of}
use Rattle.ulfm_board.proofs.Handed.{answers_of, known_on, no_row, on_error, starves_of, unchanged_of}
use Rattle.ulfm_board.proofs.Slots.{slot_inside}
use Rattle.ulfm_board.proofs.seat.SeatDecider.decide.Goals as goal

pub reach-requires : goal.reach-requires
reach-requires c = record { one_register = c.args.self.now.tied ∙ sym (ap names_of (c.as_slice-register.ensures.value ∙ ap (λ v. v.items) c.deref.ensures)) }

pub returns-in_err-slot-clause-starves : goal.returns-in_err-slot-clause-starves
returns-in_err-slot-clause-starves c =
    on_error c.from_residual.result (no_row c.args.self.now.trail c.args.decision.topic (ap (slot_of c.args.self.now.trail.numbers) (sym c.row_of-row.ensures.row) ∙ c.in_err-slot.ensures.unknown))

pub returns-in_err-slot-clause-unchanged : goal.returns-in_err-slot-clause-unchanged
returns-in_err-slot-clause-unchanged c =
    on_error c.from_residual.result (known_on c.args.self.now.trail c.reach.new.self c.reach.ensures.goes_on.0 c.reach.ensures.whole c.reach.ensures.goes_on.1)

pub decide-requires-clause-walked : goal.decide-requires-clause-walked
decide-requires-clause-walked c = slot_inside c.reach.new.self.numbers c.row_of-row.result c.in_ok-slot.slot c.in_ok-slot.ensures.slot

pub returns-clause-answers : goal.returns-clause-answers
returns-clause-answers c =
    let found : slot_of c.reach.new.self.numbers (row_of c.args.decision.topic) ≡ Some c.in_ok-slot.slot = ap (slot_of c.reach.new.self.numbers) (sym c.row_of-row.ensures.row) ∙ c.in_ok-slot.ensures.slot in
    answers_of c.args.self.now.trail c.reach.new.self c.reach.ensures.goes_on.0 c.in_ok-slot.slot c.cell_of-cell.result c.reach.ensures.whole c.reach.ensures.goes_on.1 c.decide.new.self _ c.args.decision found c.cell_of-cell.ensures.place c.decide.result c.decide.ensures.held

pub returns-clause-starves : goal.returns-clause-starves
returns-clause-starves c =
    let found : slot_of c.reach.new.self.numbers (row_of c.args.decision.topic) ≡ Some c.in_ok-slot.slot = ap (slot_of c.reach.new.self.numbers) (sym c.row_of-row.ensures.row) ∙ c.in_ok-slot.ensures.slot in
    starves_of c.args.self.now.trail c.reach.new.self c.reach.ensures.goes_on.0 c.in_ok-slot.slot c.cell_of-cell.result c.reach.ensures.whole c.reach.ensures.goes_on.1 c.decide.new.self [] c.args.decision found c.cell_of-cell.ensures.place c.decide.result c.decide.ensures.starves

pub returns-clause-unchanged : goal.returns-clause-unchanged
returns-clause-unchanged c =
    let found : slot_of c.reach.new.self.numbers (row_of c.args.decision.topic) ≡ Some c.in_ok-slot.slot = ap (slot_of c.reach.new.self.numbers) (sym c.row_of-row.ensures.row) ∙ c.in_ok-slot.ensures.slot in
    unchanged_of c.args.self.now.trail c.reach.new.self c.reach.ensures.goes_on.0 c.in_ok-slot.slot c.cell_of-cell.result c.reach.ensures.whole c.reach.ensures.goes_on.1 c.decide.new.self [] c.args.decision found c.cell_of-cell.ensures.place c.decide.result c.decide.ensures.starves
