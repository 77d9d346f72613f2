use Rattle.std.proofs.Common.{arith}
use Rattle.ulfm_base.proofs.Children.{code_is, code_within}
use Rattle.ulfm_base.proofs.context.path_code.Goals as goal

pub returns-then-within-ge-PAST : goal.returns-then-within-ge-PAST
returns-then-within-ge-PAST c =
    let more = code_within c.args.number c.args.n c.block_size-size.result c.block_size-size.ensures.size in
    omega (arith, more, c.if-within-ge-PAST.true)

pub returns-then-code-ge-PAST : goal.returns-then-code-ge-PAST
returns-then-code-ge-PAST c =
    let is = code_is c.args.number c.args.n c.block_size-size.result c.block_size-size.ensures.size in
    omega (arith, is, c.if-code-ge-PAST.true)

pub returns : goal.returns
returns c = (code_is c.args.number c.args.n c.block_size-size.result c.block_size-size.ensures.size, c.if-code-ge-PAST.false)
