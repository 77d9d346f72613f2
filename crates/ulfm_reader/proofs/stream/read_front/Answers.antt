use Rattle.std.proofs.Common.{arith, ◌∙◌}
use Rattle.ulfm_reader.proofs.Streams.{read_most, read_none}
use Rattle.ulfm_reader.proofs.stream.read_front.Goals as goal

pub returns-then-branch-eq0 : goal.returns-then-branch-eq0
returns-then-branch-eq0 g c =
    let got = c.in_ok-read_some.ensures.grows in
    read_none 1048577 _ _ _ c.loop-bytes.bytes.items got.0 c.read_some.new.bytes.items c.loop-bytes.invariant.1 (got.1 ∙ c.if-branch-eq0.true) got.2 got.3 (c.in_ok-read_some.ensures.end c.if-branch-eq0.true (omega (arith, c.loop-bytes-test.true, c.len-room.ensures, c.len.ensures))) (omega (arith, c.loop-bytes.invariant.0, c.loop-bytes.bytes.ok.0))

pub returns : goal.returns
returns g c = read_most 1048577 _ _ c.loop-bytes.bytes.items c.loop-bytes.invariant.1 (omega (arith, c.loop-bytes.invariant.0, c.loop-bytes-test.false, c.len.ensures, c.loop-bytes.bytes.ok.0))
