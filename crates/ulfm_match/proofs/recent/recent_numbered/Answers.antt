use Rattle.std.proofs.Common.{◌≡◌, ℕ, arith}
use Rattle.ulfm_match.proofs.Common.{Letter}
use Rattle.ulfm_match.proofs.Rising.{none_more, none_all}
use Rattle.ulfm_match.proofs.recent.recent_numbered.Goals as goal

pub loop-k-preserved : goal.loop-k-preserved
loop-k-preserved c =
    none_more (λ (y : ℕ × Letter). y.0 ≡ c.args.number) c.args.recent.now.items c.loop-k.k c.index.result.now (omega (arith, c.loop-k-test.true, c.len-k-end.ensures, c.args.recent.now.ok.0)) c.index.ensures c.loop-k.invariant
    c.if-index-number.false

pub returns : goal.returns
returns c = none_all (λ (y : ℕ × Letter). y.0 ≡ c.args.number) c.args.recent.now.items c.loop-k.k (omega (arith, c.loop-k-test.false, c.len-k-end.ensures, c.args.recent.now.ok.0)) c.loop-k.invariant
