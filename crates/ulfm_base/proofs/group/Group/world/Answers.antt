use Rattle.std.proofs.Common.{◌≡◌, length, sym, ap, subst, ◌∙◌, lit<, arith}
use Rattle.ulfm_base.specs.Group.{IsGroup}
use Rattle.ulfm_base.proofs.Members.{length-numbers_from, numbers_from_more, IsGroup-numbers_from}
use Rattle.ulfm_base.proofs.group.Group.world.Goals as goal

pub push_reserved-requires : goal.push_reserved-requires
push_reserved-requires c =
    let l : length c.loop-rank.members.items ≡ c.loop-rank.rank = ap length c.loop-rank.invariant.0 ∙ length-numbers_from 0 c.loop-rank.rank in
    (lit< tt, omega arith)

pub loop-rank-preserved : goal.loop-rank-preserved
loop-rank-preserved c =
    let e = numbers_from_more c.loop-rank.rank in (cc, cc)

pub invariant_of-result : goal.invariant_of-result
invariant_of-result c =
    let l : length c.loop-rank.members.items ≡ c.loop-rank.rank = ap length c.loop-rank.invariant.0 ∙ length-numbers_from 0 c.loop-rank.rank in
    (c.loop-rank.invariant.1, omega arith, subst IsGroup (sym c.loop-rank.invariant.0) (IsGroup-numbers_from 0 c.loop-rank.rank (omega arith)))
