use Rattle.std.proofs.Common.{◌≡◌, take, false}
use Rattle.ulfm_base.specs.Group.{is_member}
use Rattle.ulfm_base.proofs.group.Group.rank_of.Given as goal

abbrev pub invariant-loop-position : goal.invariant-loop-position
invariant-loop-position l = is_member (take l.position l.member-items) l.rank.number ≡ false
