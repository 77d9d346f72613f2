use Rattle.std.proofs.Common.{arith}
use Rattle.ulfm_reader.proofs.Streams.{written_more}
use Rattle.ulfm_reader.proofs.stream.write_whole.Goals as goal

pub loop-at-preserved : goal.loop-at-preserved
loop-at-preserved g c = (omega (arith, c.in-Ok.ensures.bound), written_more _ (g.W.Write.contents c.loop-at.output) _ c.args.bytes.now c.loop-at.at c.in-Ok.n c.loop-at.invariant.0 c.loop-at.invariant.1 c.in-Ok.ensures.bytes)
