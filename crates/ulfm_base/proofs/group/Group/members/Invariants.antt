use Rattle.std.proofs.Common.{◌≡◌, ℕ, take}
use Rattle.ulfm_base.specs.RankSet.{has}
use Rattle.ulfm_base.specs.Group.{is_member}
use Rattle.ulfm_base.proofs.group.Group.members.Given as goal

abbrev pub invariant-loop-member : goal.invariant-loop-member
invariant-loop-member l = (r : ℕ) → has l.set r ≡ is_member (take l.member-index l.member-items) r
