use Rattle.std.proofs.Common.{ℕ, arith, subst, sym}
use Rattle.ulfm_match.proofs.Common.{Letter, Admits}
use Rattle.ulfm_match.proofs.First.{first_at}
use Rattle.ulfm_match.proofs.Rising.{none_more, none_all}
use Rattle.ulfm_match.proofs.recent.first_admitted.Goals as goal

pub returns-then-admits : goal.returns-then-admits
returns-then-admits c =
    first_at (λ (y : ℕ × Letter). Admits c.args.pattern.now y.1.envelope) c.args.letters.now c.loop-k.k c.index-letters-k.result (omega (arith, c.loop-k-test.true)) c.index-letters-k.is c.loop-k.invariant
    (subst (λ (y : ℕ × Letter). Admits c.args.pattern.now y.1.envelope) (sym c.index-letters-k.is) (c.admits.ensures.0 c.if-admits.true))

pub loop-k-preserved : goal.loop-k-preserved
loop-k-preserved c =
    none_more (λ (y : ℕ × Letter). Admits c.args.pattern.now y.1.envelope) c.args.letters.now c.loop-k.k c.index-letters-k.result (omega (arith, c.loop-k-test.true)) c.index-letters-k.is c.loop-k.invariant
    (λ p. let t = c.admits.ensures.1 (subst (λ (y : ℕ × Letter). Admits c.args.pattern.now y.1.envelope) c.index-letters-k.is p) in let u = c.if-admits.false in cc)

pub returns : goal.returns
returns c = none_all (λ (y : ℕ × Letter). Admits c.args.pattern.now y.1.envelope) c.args.letters.now c.loop-k.k (omega (arith, c.loop-k-test.false)) c.loop-k.invariant
