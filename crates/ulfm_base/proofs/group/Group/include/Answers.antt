use Rattle.std.proofs.Common.{◌≡◌, false, rules}
use Rattle.ulfm_base.specs.Group.{is_member}
use Rattle.ulfm_base.proofs.Inclusion.{IsGroup-push, at_most_eight, room_for_another}
use Rattle.ulfm_base.proofs.group.Group.include.Goals as goal

pub push_reserved-requires : goal.push_reserved-requires
push_reserved-requires c =
    let group = c.self.inside.members.items in
    let absent : is_member group c.args.rank.number ≡ false = cc in
    let room = room_for_another group _ c.self.invariant.2 absent c.args.rank.in_range in
    search (rules, room)

pub invariant_of-self : goal.invariant_of-self
invariant_of-self c =
    let group = c.self.inside.members.items in
    let absent : is_member group c.args.rank.number ≡ false = cc in
    let wider = IsGroup-push group _ c.self.invariant.2 absent c.args.rank.in_range in
    ((cc), rw c.push_reserved.ensures.items (at_most_eight _ wider), rw c.push_reserved.ensures.items wider)
