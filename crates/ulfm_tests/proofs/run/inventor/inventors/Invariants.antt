use Rattle.std.proofs.Common.{◌≡◌, ◌≤◌, ◌∷◌, [], vec_len, vec_capacity, All, Some}
use Rattle.std.specs.Arc.{arc_value}
use Rattle.once_cell.specs.Once.{cell_name}
use Rattle.ulfm_board.specs.Known.{nothing_known}
use Rattle.ulfm_tests.specs.Inventing.{known_by}
use Rattle.ulfm_tests.specs.declared.run.inventor.Inventor.{Inventor}
use Rattle.ulfm_tests.proofs.run.inventor.inventors.Given as goal

abbrev pub invariant-loop : goal.invariant-loop
invariant-loop l =
    (vec_len l.all ≡ l.counter)
    × (4 ≤ vec_capacity l.all)
    × All (λ (i : Inventor). Some (cell_name (arc_value i.cell) ∷ []) ≡ Some (cell_name (arc_value l.cell) ∷ [])) l.all.items
    × All (λ (i : Inventor). known_by i.number i.note.known ≡ nothing_known) l.all.items
