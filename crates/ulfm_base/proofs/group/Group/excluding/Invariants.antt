use Rattle.std.proofs.Common.{◌≡◌, take}
use Rattle.ulfm_base.specs.RankSet.{has}
use Rattle.ulfm_base.specs.Group.{excluding}
use Rattle.ulfm_base.proofs.group.Group.excluding.Given as goal

abbrev pub invariant-loop-member : goal.invariant-loop-member
invariant-loop-member l =
    (l.members.items ≡ excluding (take l.member-index l.member-items) (has l.excluded)) × (l.members.capacity ≡ 8)
