use Rattle.std.proofs.Common.{◌<◌, ◌∙◌, ap, arith, length, map, set, slice_get}
use Rattle.ulfm_board.specs.inside.Trail.{TrailView, slots_known, with_chunks}
use Rattle.ulfm_board.proofs.Goes.{chunk_only}
use Rattle.ulfm_board.proofs.Walked.{chunk_found, chunk_kept, many_chunks, more_chunks, one_chunk}
use Rattle.ulfm_board.proofs.trail.Trail.chunk.Goals as goal

pub get_or_try_init_as-requires-clause-cell : goal.get_or_try_init_as-requires-clause-cell
get_or_try_init_as-requires-clause-cell c =
    let same = ap (λ (t : TrailView). t.register) c.self.view_is ∙ c.requires.one_register in
    let many = many_chunks c.self.inside.chunks.items c.args.register.now same in
    let low : c.args.chunk < length c.self.inside.chunks.items = omega (arith, many, c.requires.there.1) in
    one_chunk c.self.inside.chunks.items c.args.register.now c.args.chunk _ c.index-register-chunk.result same low c.index_mut.ensures.value c.index-register-chunk.is

pub invariant_of-self : goal.invariant_of-self
invariant_of-self c =
    let many = many_chunks c.self.inside.chunks.items c.args.register.now (ap (λ (t : TrailView). t.register) c.self.view_is ∙ c.requires.one_register) in
    let low : c.args.chunk < length c.self.inside.chunks.items = omega (arith, many, c.requires.there.1) in
    more_chunks (chunk_kept c.self.inside.chunks.items c.args.chunk _ _ c.get_or_try_init_as.result low c.index_mut.ensures.value c.get_or_try_init_as.ensures.value) c.self.invariant

pub returns-clause-known : goal.returns-clause-known
returns-clause-known c =
    let many = many_chunks c.self.inside.chunks.items c.args.register.now (ap (λ (t : TrailView). t.register) c.self.view_is ∙ c.requires.one_register) in
    let low : c.args.chunk < length c.self.inside.chunks.items = omega (arith, many, c.requires.there.1) in
    chunk_found c.self.inside.chunks.items c.args.chunk _ _ c.get_or_try_init_as.result low c.index_mut.ensures.value c.get_or_try_init_as.ensures.value

pub returns-clause-only : goal.returns-clause-only
returns-clause-only c =
    chunk_only c.self.inside.chunks.items c.args.chunk _ c.get_or_try_init_as.new.note c.self.inside.rows.items c.self.inside.numbers.items c.self.inside.cells.items c.index_mut.ensures.value c.get_or_try_init_as.ensures.cell
    ∙ ap (λ (t : TrailView). with_chunks t (map slots_known (set c.self.inside.chunks.items c.args.chunk c.get_or_try_init_as.new.note))) c.self.view_is

pub returns-clause-keeps : goal.returns-clause-keeps
returns-clause-keeps c =
    let many = many_chunks c.self.inside.chunks.items c.args.register.now (ap (λ (t : TrailView). t.register) c.self.view_is ∙ c.requires.one_register) in
    let low : c.args.chunk < length c.self.inside.chunks.items = omega (arith, many, c.requires.there.1) in
    λ k names there.
    chunk_kept c.self.inside.chunks.items c.args.chunk _ _ c.get_or_try_init_as.result low c.index_mut.ensures.value c.get_or_try_init_as.ensures.value k names
    (ap (λ (t : TrailView). slice_get t.chunks k) c.self.view_is ∙ there)
