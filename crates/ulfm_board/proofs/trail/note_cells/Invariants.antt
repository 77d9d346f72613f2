use Rattle.std.proofs.Common.{◌≡◌, ◌≤◌, ◌+◌, ◌++◌, map, take, replicate, vec_len, vec_capacity, None}
use Rattle.once_cell.specs.declared.race.note.Note.{Note}
use Rattle.ulfm_board.specs.declared.proposed.Proposed.{Proposed}
use Rattle.ulfm_board.specs.inside.Trail.{names_of, decision_known}
use Rattle.ulfm_board.proofs.trail.note_cells.Given as goal

abbrev pub invariant-loop-cell : goal.invariant-loop-cell
invariant-loop-cell l =
    (vec_len l.cells ≡ vec_len l.fn.cells + l.cell)
    × (vec_len l.fn.cells + 64 ≤ vec_capacity l.cells)
    × (map (λ (c : Note Proposed). c.cell) l.cells.items ≡ map (λ (c : Note Proposed). c.cell) l.fn.cells.items ++ take l.cell (names_of l.row.cells.items))
    × (map decision_known l.cells.items ≡ map decision_known l.fn.cells.items ++ replicate l.cell None)
