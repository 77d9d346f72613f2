use Rattle.std.proofs.Common.{◌<◌, ◌+◌, ◌*◌, ◌∙◌, ap, arith, length, slice_get, subst, sym}
use Rattle.ulfm_board.specs.inside.Trail.{TrailView}
use Rattle.ulfm_board.proofs.Cells.{cell_of_row, held_of, starved_of, trail_stays}
use Rattle.ulfm_board.proofs.trail.Trail.decide.Goals as goal

pub decided-requires-clause-one_cell : goal.decided-requires-clause-one_cell
decided-requires-clause-one_cell c =
    let is = c.self-2.view_is ∙ c.row_of-row.ensures.unchanged in
    let walked : c.args.slot < length c.self-2.inside.numbers.items = subst (λ (t : TrailView). c.args.slot < length t.numbers) (sym is) c.requires.walked in
    let low : 64 * c.args.slot + c.args.cell < length c.self-2.inside.cells.items = omega (arith, walked, c.requires.low, c.self-2.invariant.each) in
    cell_of_row c.self-2.inside.cells.items c.row_of-row.result.now (64 * c.args.slot + c.args.cell) c.args.cell c.index_mut.result.now c.index.result.now low c.requires.low c.index_mut.ensures.value c.index.ensures
    (c.row_of-row.ensures.cells c.args.cell c.requires.low ∙ ap (λ (t : TrailView). slice_get t.cells (64 * c.args.slot + c.args.cell)) (sym is))

pub invariant_of-self : goal.invariant_of-self
invariant_of-self c =
    let is = c.self-2.view_is ∙ c.row_of-row.ensures.unchanged in
    let walked : c.args.slot < length c.self-2.inside.numbers.items = subst (λ (t : TrailView). c.args.slot < length t.numbers) (sym is) c.requires.walked in
    let low : 64 * c.args.slot + c.args.cell < length c.self-2.inside.cells.items = omega (arith, walked, c.requires.low, c.self-2.invariant.each) in
    trail_stays c.args.self.now c.self-2.inside.chunks.items c.self-2.inside.rows.items c.self-2.inside.numbers.items c.self-2.inside.cells.items is (64 * c.args.slot + c.args.cell) c.index_mut.result.now c.decided.new.note low c.index_mut.ensures.value c.decided.ensures.cell c.self-2.invariant

pub returns-clause-held : goal.returns-clause-held
returns-clause-held c =
    let is = c.self-2.view_is ∙ c.row_of-row.ensures.unchanged in
    let walked : c.args.slot < length c.self-2.inside.numbers.items = subst (λ (t : TrailView). c.args.slot < length t.numbers) (sym is) c.requires.walked in
    let low : 64 * c.args.slot + c.args.cell < length c.self-2.inside.cells.items = omega (arith, walked, c.requires.low, c.self-2.invariant.each) in
    held_of c.args.self.now c.self-2.inside.chunks.items c.self-2.inside.rows.items c.self-2.inside.numbers.items c.self-2.inside.cells.items is (64 * c.args.slot + c.args.cell) c.index_mut.result.now c.decided.new.note low c.index_mut.ensures.value c.decided.ensures.cell c.decided.result c.decided.ensures.held

pub returns-clause-starves : goal.returns-clause-starves
returns-clause-starves c =
    let is = c.self-2.view_is ∙ c.row_of-row.ensures.unchanged in
    let walked : c.args.slot < length c.self-2.inside.numbers.items = subst (λ (t : TrailView). c.args.slot < length t.numbers) (sym is) c.requires.walked in
    let low : 64 * c.args.slot + c.args.cell < length c.self-2.inside.cells.items = omega (arith, walked, c.requires.low, c.self-2.invariant.each) in
    starved_of c.args.self.now c.self-2.inside.chunks.items c.self-2.inside.rows.items c.self-2.inside.numbers.items c.self-2.inside.cells.items is (64 * c.args.slot + c.args.cell) c.index_mut.result.now c.decided.new.note low c.index_mut.ensures.value c.decided.ensures.cell c.decided.result c.decided.ensures.starves
