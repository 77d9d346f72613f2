use Rattle.std.proofs.Common.{◌≡◌, ◌∙◌, ◌∷◌, [], ap, rules, sym, subst, All, Some}
use Rattle.std.specs.Arc.{arc_value}
use Rattle.std.proofs.lemmas.List.Elements.{All-push}
use Rattle.once_cell.specs.Once.{cell_name}
use Rattle.ulfm_board.specs.Known.{nothing_known}
use Rattle.ulfm_tests.specs.Inventing.{known_by}
use Rattle.ulfm_tests.specs.declared.run.inventor.Inventor.{Inventor}
use Rattle.ulfm_tests.proofs.run.inventor.inventors.Goals as goal

pub loop-preserved : goal.loop-preserved
loop-preserved c =
    let IsOne : Inventor → Type 0 = λ i. Some (cell_name (arc_value i.cell) ∷ []) ≡ Some (cell_name (arc_value c.in_ok-cell.cell) ∷ []) in
    let KnowsNothing : Inventor → Type 0 = λ i. known_by i.number i.note.known ≡ nothing_known in
    let shared : arc_value c.in_ok-shared.shared ≡ arc_value c.in_ok-cell.cell = search rules in
    let board = c.new_inventor.ensures.board ∙ ap (λ v. Some (cell_name v ∷ [])) shared in (
      search rules,
      search rules,
      subst (All IsOne) (sym c.push_reserved.ensures.items) (All-push IsOne c.loop.all.items c.new_inventor.result c.loop.invariant.2 board),
      subst (All KnowsNothing) (sym c.push_reserved.ensures.items) (All-push KnowsNothing c.loop.all.items c.new_inventor.result c.loop.invariant.3 c.new_inventor.ensures.nothing_known),
    )

pub returns-clause-one_board : goal.returns-clause-one_board
returns-clause-one_board c = (cell_name (arc_value c.in_ok-cell.cell) ∷ [], c.loop.invariant.2)
