use Rattle.std.proofs.Common.{◌<◌, ◌+◌, ◌*◌, ◌∙◌, ap, arith, length, slice_get, subst, sym}
use Rattle.ulfm_board.specs.inside.Trail.{TrailView}
use Rattle.ulfm_board.proofs.Rows.{chunk_in, chunk_made, place_in, row_cells, row_made, row_still, slot_named, slots_still, still_trail, still_view}
use Rattle.ulfm_board.proofs.Walked.{many_chunks, one_chunk}
use Rattle.ulfm_board.proofs.trail.Trail.row_of.Goals as goal

pub bounds-register-chunk : goal.bounds-register-chunk
bounds-register-chunk c =
    let low : c.args.slot < length c.self.inside.numbers.items = subst (λ (t : TrailView). c.args.slot < length t.numbers) (sym c.self.view_is) c.requires.walked in
    let same = ap (λ (t : TrailView). t.register) c.self.view_is ∙ c.requires.one_register in
    omega (arith, chunk_in c.self.invariant c.args.slot low c.chunk_of-chunk.result c.chunk_of-chunk.ensures.chunk, many_chunks c.self.inside.chunks.items c.args.register.now same)

pub index_mut-requires : goal.index_mut-requires
index_mut-requires c =
    let low : c.args.slot < length c.self.inside.numbers.items = subst (λ (t : TrailView). c.args.slot < length t.numbers) (sym c.self.view_is) c.requires.walked in
    omega (arith, chunk_in c.self.invariant c.args.slot low c.chunk_of-chunk.result c.chunk_of-chunk.ensures.chunk, c.self.inside.chunks.ok)

pub get_as-requires : goal.get_as-requires
get_as-requires c =
    let low : c.args.slot < length c.self.inside.numbers.items = subst (λ (t : TrailView). c.args.slot < length t.numbers) (sym c.self.view_is) c.requires.walked in
    let same = ap (λ (t : TrailView). t.register) c.self.view_is ∙ c.requires.one_register in
    one_chunk c.self.inside.chunks.items c.args.register.now c.chunk_of-chunk.result c.index_mut.result.now c.index-register-chunk.result same (chunk_in c.self.invariant c.args.slot low c.chunk_of-chunk.result c.chunk_of-chunk.ensures.chunk) c.index_mut.ensures.value
    c.index-register-chunk.is

pub unreachable-requires : goal.unreachable-requires
unreachable-requires c =
    let low : c.args.slot < length c.self.inside.numbers.items = subst (λ (t : TrailView). c.args.slot < length t.numbers) (sym c.self.view_is) c.requires.walked in
    chunk_made c.self.invariant c.args.slot low c.chunk_of-chunk.result c.index_mut.result.now c.chunk_of-chunk.ensures.chunk c.index_mut.ensures.value c.in_default.ensures.value.0

pub index-requires : goal.index-requires
index-requires c =
    let low : c.args.slot < length c.self.inside.numbers.items = subst (λ (t : TrailView). c.args.slot < length t.numbers) (sym c.self.view_is) c.requires.walked in
    omega (arith, place_in c.self.invariant c.args.slot low c.chunk_of-chunk.result c.index_mut.result.now c.chunk_of-chunk.ensures.chunk c.index_mut.ensures.value c.in-Some.slots.now c.in-Some.ensures.value.1 c.place_of.result c.place_of.ensures, c.in-Some.slots.now.ok)

pub get_as-requires-2 : goal.get_as-requires-2
get_as-requires-2 c =
    let low : c.args.slot < length c.self.inside.numbers.items = subst (λ (t : TrailView). c.args.slot < length t.numbers) (sym c.self.view_is) c.requires.walked in
    slot_named c.self.invariant c.args.slot low c.chunk_of-chunk.result c.index_mut.result.now c.chunk_of-chunk.ensures.chunk c.index_mut.ensures.value c.in-Some.slots.now c.in-Some.ensures.value.1 c.place_of.result c.index.result.now c.index_mut-2.result.now c.place_of.ensures c.index.ensures c.index_mut-2.ensures.value

pub unreachable-requires-in_default-get_as : goal.unreachable-requires-in_default-get_as
unreachable-requires-in_default-get_as c =
    let low : c.args.slot < length c.self.inside.numbers.items = subst (λ (t : TrailView). c.args.slot < length t.numbers) (sym c.self.view_is) c.requires.walked in
    row_made c.self.invariant c.args.slot low c.index_mut-2.result.now c.index_mut-2.ensures.value c.in_default-get_as.ensures.value.0

pub invariant_of-self : goal.invariant_of-self
invariant_of-self c =
    let low : c.args.slot < length c.self.inside.numbers.items = subst (λ (t : TrailView). c.args.slot < length t.numbers) (sym c.self.view_is) c.requires.walked in
    still_trail c.self.invariant c.chunk_of-chunk.result c.args.slot c.index_mut.result.now c.get_as.new.note c.index_mut-2.result.now c.get_as-2.new.note low c.index_mut.ensures.value c.index_mut-2.ensures.value
    c.in-Some.ensures.cell (c.in-Some.ensures.value.0 ∙ slots_still c.self.invariant c.args.slot low c.chunk_of-chunk.result c.index_mut.result.now c.chunk_of-chunk.ensures.chunk c.index_mut.ensures.value c.in-Some.slots.now c.in-Some.ensures.value.1) c.in-Some-get_as.ensures.cell (c.in-Some-get_as.ensures.value.0 ∙ row_still c.self.invariant c.args.slot low c.index_mut-2.result.now c.index_mut-2.ensures.value c.in-Some-get_as.row.now c.in-Some-get_as.ensures.value.1)

pub returns-clause-unchanged : goal.returns-clause-unchanged
returns-clause-unchanged c =
    let low : c.args.slot < length c.self.inside.numbers.items = subst (λ (t : TrailView). c.args.slot < length t.numbers) (sym c.self.view_is) c.requires.walked in
    still_view c.self.invariant c.chunk_of-chunk.result c.args.slot c.index_mut.result.now c.get_as.new.note c.index_mut-2.result.now c.get_as-2.new.note low c.index_mut.ensures.value c.index_mut-2.ensures.value
    c.in-Some.ensures.cell (c.in-Some.ensures.value.0 ∙ slots_still c.self.invariant c.args.slot low c.chunk_of-chunk.result c.index_mut.result.now c.chunk_of-chunk.ensures.chunk c.index_mut.ensures.value c.in-Some.slots.now c.in-Some.ensures.value.1) c.in-Some-get_as.ensures.cell (c.in-Some-get_as.ensures.value.0 ∙ row_still c.self.invariant c.args.slot low c.index_mut-2.result.now c.index_mut-2.ensures.value c.in-Some-get_as.row.now c.in-Some-get_as.ensures.value.1)
    ∙ c.self.view_is

pub returns-clause-cells : goal.returns-clause-cells
returns-clause-cells c =
    let low : c.args.slot < length c.self.inside.numbers.items = subst (λ (t : TrailView). c.args.slot < length t.numbers) (sym c.self.view_is) c.requires.walked in
    λ p small.
    row_cells c.self.invariant c.args.slot low c.index_mut-2.result.now c.index_mut-2.ensures.value c.in-Some-get_as.row.now c.in-Some-get_as.ensures.value.1 p small ∙ ap (λ (t : TrailView). slice_get t.cells (64 * c.args.slot + p)) c.self.view_is
