use Rattle.std.proofs.Common.{◌≡◌, ◌++◌, ◌∷◌, [], rules}
use Rattle.ulfm_board.proofs.Noted.{chunk_noted}
use Rattle.ulfm_board.proofs.trail.Trail.new.Goals as goal

pub loop-chunk-preserved : goal.loop-chunk-preserved
loop-chunk-preserved c =
    let items : c.push.new.self.items ≡ c.loop-chunk.chunks.items ++ c.note.result ∷ [] = search rules in
    rw items (chunk_noted c.loop-chunk.chunks.items c.args.register.now c.loop-chunk.chunk-index c.note.result c.chunk-item.result c.loop-chunk-test.true c.chunk-item.is c.note.ensures.0 c.note.ensures.1 c.loop-chunk.invariant.0 c.loop-chunk.invariant.1)
