use Rattle.std.proofs.Common.{◌≡◌, ◌∙◌, IfSome, ap, subst, sym}
use Rattle.std.specs.Arc.{arc_value}
use Rattle.once_cell.specs.declared.race.note.Note.{Note}
use Rattle.once_cell.specs.Once.{cell_name}
use Rattle.ulfm_base.specs.declared.decision.Decision.{Decision}
use Rattle.ulfm_tests.proofs.Inventors.{one_cell}
use Rattle.ulfm_tests.proofs.run.inventor.InventorDecider.same.Goals as goal

pub compare-requires : goal.compare-requires
compare-requires c =
    let one : cell_name (arc_value c.args.other.now.cell) ≡ cell_name (arc_value c.args.self.now.cell) = cc (c.requires) in
    ap (λ (n : Note Decision). n.cell) c.again-theirs.ensures.1 ∙ c.args.other.now.tied ∙ one ∙ sym c.args.self.now.tied

pub returns-clause-agree : goal.returns-clause-agree
returns-clause-agree c = λ shared topic.
    let known = subst (λ (n : Note Decision). IfSome n.known (λ y. IfSome c.args.self.now.note.known (λ x. x ≡ y))) c.again-theirs.ensures.1 c.compare.ensures.1 in
    one_cell c.args.self.now.number c.args.other.now.number c.args.self.now.note.known c.args.other.now.note.known known topic
