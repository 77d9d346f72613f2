use Rattle.std.proofs.Common.{◌∷◌, ◌∙◌, [], ap, sym}
use Rattle.std.specs.Arc.{arc_value}
use Rattle.once_cell.specs.Once.{cell_name}
use Rattle.ulfm_tests.proofs.Inventors.{kept_answers, kept_starves, kept_unchanged, known_past}
use Rattle.ulfm_tests.proofs.run.inventor.InventorDecider.decide.Goals as goal

pub kept-requires : goal.kept-requires
kept-requires c = c.args.self.now.tied ∙ ap cell_name (sym c.deref.ensures)

pub returns-then-number_of-self-clause-answers : goal.returns-then-number_of-self-clause-answers
returns-then-number_of-self-clause-answers c =
    let i = c.args.self.now in
    kept_answers (cell_name (arc_value i.cell) ∷ []) i.number c.args.decision i.note.known c.kept.new.note.known (sym c.number_of.ensures.number ∙ c.if-number_of-self.true) c.kept.result c.kept.ensures.held

pub returns-then-number_of-self-clause-starves : goal.returns-then-number_of-self-clause-starves
returns-then-number_of-self-clause-starves c =
    let i = c.args.self.now in
    kept_starves (cell_name (arc_value i.cell) ∷ []) i.number c.args.decision i.note.known c.kept.new.note.known (sym c.number_of.ensures.number ∙ c.if-number_of-self.true) c.kept.result c.kept.ensures.starves

pub returns-then-number_of-self-clause-unchanged : goal.returns-then-number_of-self-clause-unchanged
returns-then-number_of-self-clause-unchanged c =
    let i = c.args.self.now in
    kept_unchanged (cell_name (arc_value i.cell) ∷ []) i.number c.args.decision i.note.known c.kept.new.note.known (sym c.number_of.ensures.number ∙ c.if-number_of-self.true) c.kept.result c.kept.ensures.starves

pub returns-clause-starves : goal.returns-clause-starves
returns-clause-starves c =
    record { unknown = known_past c.args.self.now.number c.args.self.now.note.known c.args.decision.topic (λ same. c.if-number_of-self.false (c.number_of.ensures.number ∙ same)) }
