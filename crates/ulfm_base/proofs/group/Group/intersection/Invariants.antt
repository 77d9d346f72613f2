use Rattle.std.proofs.Common.{◌≡◌, take}
use Rattle.ulfm_base.specs.Group.{intersection}
use Rattle.ulfm_base.proofs.group.Group.intersection.Given as goal

abbrev pub invariant-loop-member : goal.invariant-loop-member
invariant-loop-member l = (l.members.capacity ≡ 8) × (l.members.items ≡ intersection (take l.member-index l.member-items) l.other)
