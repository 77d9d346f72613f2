use Rattle.std.proofs.Common.{◌≡◌, take, map}
use Rattle.ulfm_base.specs.Group.{translated}
use Rattle.ulfm_base.proofs.group.Group.translate.Given as goal

abbrev pub invariant-loop-rank : goal.invariant-loop-rank
invariant-loop-rank l = l.found.items ≡ map (translated l.self l.other) (take l.rank-index l.ranks)
