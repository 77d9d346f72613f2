use Rattle.std.proofs.Common.{◌≡◌, take}
use Rattle.ulfm_answer.proofs.putting.numbers_of.Given as goal

abbrev pub invariant-loop-position : goal.invariant-loop-position
invariant-loop-position l = (l.numbers.items ≡ take l.position l.group) × (l.numbers.capacity ≡ 8)
