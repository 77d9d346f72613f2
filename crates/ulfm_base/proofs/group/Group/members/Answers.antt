use Rattle.std.proofs.Common.{◌≡◌, length, ap, arith}
use Rattle.ulfm_base.proofs.Members.{member_below}
use Rattle.ulfm_base.proofs.group.Group.members.Goals as goal

pub invariant_of-insert : goal.invariant_of-insert
invariant_of-insert c =
    let e : c.deref-member-items.result.now ≡ c.self.inside.members.items = cc in
    let l : length c.deref-member-items.result.now ≡ length c.self.inside.members.items = ap length e in
    rw e (record { in_range = member_below _ _ 0 c.self.invariant.2 (omega arith) })
