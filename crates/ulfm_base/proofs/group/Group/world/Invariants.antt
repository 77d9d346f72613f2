use Rattle.std.proofs.Common.{◌≡◌}
use Rattle.ulfm_base.specs.Group.{numbers_from}
use Rattle.ulfm_base.proofs.group.Group.world.Given as goal

abbrev pub invariant-loop-rank : goal.invariant-loop-rank
invariant-loop-rank l = (l.members.items ≡ numbers_from 0 l.rank) × (l.members.capacity ≡ 8)
