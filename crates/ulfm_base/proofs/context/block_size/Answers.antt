use Rattle.std.proofs.Common.{◌≡◌, ◌^◌, ap, arith, ◌∙◌}
use Rattle.ulfm_base.proofs.Children.{block_is}
use Rattle.ulfm_base.proofs.context.block_size.Goals as goal

pub returns-after-loop-clause-size : goal.returns-after-loop-clause-size
returns-after-loop-clause-size c =
    let e = c.loop.invariant in
    let at : c.loop.counter ≡ 66 = omega (arith, c.loop-test.false, c.loop.auto.counter-end) in
    let last : 2 ^ c.loop.counter ≡ 2 ^ 66 = ap (λ k. 2 ^ k) at in
    e.0 ∙ block_is c.loop.counter c.args.n (omega (arith, e.0, e.1)) (omega (arith, last, c.requires))

pub returns-after-loop-clause-inside : goal.returns-after-loop-clause-inside
returns-after-loop-clause-inside c =
    let e = c.loop.invariant in
    let at : c.loop.counter ≡ 66 = omega (arith, c.loop-test.false, c.loop.auto.counter-end) in
    let last : 2 ^ c.loop.counter ≡ 2 ^ 66 = ap (λ k. 2 ^ k) at in
    omega (arith, e.0, last, c.requires)

pub returns-then-n-size-clause-size : goal.returns-then-n-size-clause-size
returns-then-n-size-clause-size c =
    let e = c.loop.invariant in
    e.0 ∙ block_is c.loop.counter c.args.n (omega (arith, e.0, e.1)) (omega (arith, e.0, c.if-n-size.true))
