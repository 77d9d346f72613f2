use Rattle.std.proofs.Common.{◌<◌, arith, length, map}
use Rattle.once_cell.specs.declared.race.note.Note.{Note}
use Rattle.ulfm_board.specs.declared.proposed.Proposed.{Proposed}
use Rattle.ulfm_board.specs.inside.Trail.{decision_known}
use Rattle.ulfm_board.proofs.Noted.{cell_noted}
use Rattle.ulfm_board.proofs.trail.note_cells.Goals as goal

pub loop-cell-preserved : goal.loop-cell-preserved
loop-cell-preserved c =
    let low : c.loop-cell.cell < length c.args.row.now.cells.items = omega (arith, c.loop-cell-test.true, c.args.row.now.whole, c.args.row.now.cells.ok) in
    let noted =
    cell_noted (map (λ (n : Note Proposed). n.cell) c.args.cells.now.items) (map decision_known c.args.cells.now.items) c.loop-cell.cells.items c.args.row.now.cells.items c.loop-cell.cell c.note.result c.index.result.now low c.index.ensures
    c.note.ensures.0 c.note.ensures.1 c.loop-cell.invariant.2 c.loop-cell.invariant.3 in (
      omega (arith, c.loop-cell.invariant.0, c.push_reserved.ensures.len),
      omega (arith, c.loop-cell.invariant.1, c.push_reserved.ensures.capacity),
      rw c.push_reserved.ensures.items noted.0,
      rw c.push_reserved.ensures.items noted.1,
    )
