use Rattle.std.proofs.Common.{◌≤◌, length, lit<, take_all}
use Rattle.ulfm_base.specs.Group.{is_member, IsGroup}
use Rattle.ulfm_base.proofs.Members.{member_below}
use Rattle.ulfm_base.proofs.Filtered.{IsGroup-filter, room_for_filtered}
use Rattle.ulfm_base.proofs.Inclusion.{at_most_eight}
use Rattle.ulfm_base.proofs.group.Group.intersection.Goals as goal

pub invariant_of-contains : goal.invariant_of-contains
invariant_of-contains c =
    let group : IsGroup c.deref-member-items.result.now = rw c.deref-member-items.ensures c.self.invariant.2 in
    record { in_range = member_below _ _ 0 group c.loop-member-test.true }

pub push_reserved-requires : goal.push_reserved-requires
push_reserved-requires c =
    let small : length c.deref-member-items.result.now ≤ 8 = rw c.deref-member-items.ensures c.self.invariant.1 in
    let room = room_for_filtered (is_member c.args.other.now) _ _ small c.loop-member-test.true in
    (lit< tt, rw (c.loop-member.invariant.1, c.loop-member.invariant.0) room)

pub invariant_of-result : goal.invariant_of-result
invariant_of-result c =
    let group : IsGroup c.self.inside.members.items = c.self.invariant.2 in
    let all = take_all c.loop-member.member-index c.deref-member-items.result.now c.loop-member-test.false in
    rw (c.loop-member.invariant.1, all, c.deref-member-items.ensures) (c.loop-member.invariant.0, at_most_eight _ (IsGroup-filter _ _ group), IsGroup-filter _ _ group)
