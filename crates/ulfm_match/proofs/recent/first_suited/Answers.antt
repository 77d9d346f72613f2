use Rattle.std.proofs.Common.{ℕ, arith, subst}
use Rattle.ulfm_match.proofs.Common.{Letter, Admits}
use Rattle.ulfm_match.proofs.Rising.{none_more, none_all}
use Rattle.ulfm_match.proofs.recent.first_suited.Goals as goal

pub loop-k-preserved : goal.loop-k-preserved
loop-k-preserved c =
    none_more (λ (y : ℕ × Letter). Admits c.args.pattern.now y.1.envelope) c.args.letters.now c.loop-k.k c.index-letters-k.result (omega (arith, c.loop-k-test.true)) c.index-letters-k.is c.loop-k.invariant
    (λ p. let t = c.admits.ensures.1 (subst (λ (y : ℕ × Letter). Admits c.args.pattern.now y.1.envelope) c.index-letters-k.is p) in let u = c.if-admits.false in cc)

pub returns : goal.returns
returns c = none_all (λ (y : ℕ × Letter). Admits c.args.pattern.now y.1.envelope) c.args.letters.now c.loop-k.k (omega (arith, c.loop-k-test.false)) c.loop-k.invariant
