use Rattle.std.proofs.Common.{◌≡◌, ◌≤◌, ℕ, List, length, ap, subst, sym, ◌∙◌, lit<, arith}
use Rattle.ulfm_base.specs.RankSet.{has}
use Rattle.ulfm_base.specs.Group.{IsGroup, excluding}
use Rattle.ulfm_base.proofs.Members.{member_below, IsGroup-excluding, length-excluding, length-excluding-take, excluding_whole}
use Rattle.ulfm_base.proofs.group.Group.excluding.Goals as goal

pub invariant_of-contains : goal.invariant_of-contains
invariant_of-contains c =
    let e : c.deref-member-items.result.now ≡ c.self.inside.members.items = cc in
    let l : length c.deref-member-items.result.now ≡ length c.self.inside.members.items = ap length e in
    rw e (record { in_range = member_below _ _ 0 c.self.invariant.2 (omega arith) })

pub push_reserved-requires : goal.push_reserved-requires
push_reserved-requires c =
    let l : length c.deref-member-items.result.now ≡ length c.self.inside.members.items = ap length c.deref-member-items.ensures in
    let n : length c.loop-member.members.items ≤ c.loop-member.member-index = subst (λ (ms : List ℕ). length ms ≤ c.loop-member.member-index) (sym c.loop-member.invariant.0) (length-excluding-take c.loop-member.member-index c.deref-member-items.result.now (has c.args.excluded)) in
    (lit< tt, omega arith)

pub invariant_of-result : goal.invariant_of-result
invariant_of-result c =
    let xs = c.self.inside.members.items in
    let e : c.loop-member.members.items ≡ excluding xs (has c.args.excluded) = c.loop-member.invariant.0 ∙ excluding_whole _ _ _ _ c.deref-member-items.ensures (omega arith) in
    let l : length (excluding xs (has c.args.excluded)) ≤ length xs = length-excluding xs (has c.args.excluded) in
    let n : length c.loop-member.members.items ≡ length (excluding xs (has c.args.excluded)) = ap length e in
    (c.loop-member.invariant.1, omega arith, subst IsGroup (sym e) (IsGroup-excluding xs (has c.args.excluded) c.self.invariant.2))
