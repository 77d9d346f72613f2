use Rattle.std.proofs.Common.{◌≡◌, map, drop}
use Rattle.ulfm_log.proofs.Common.{find_group, by_number}
use Rattle.ulfm_log.proofs.communicators.Communicators.group_of.Given as goal

abbrev pub invariant-loop-made : goal.invariant-loop-made
invariant-loop-made l = find_group l.context.number (map by_number l.made-items) ≡ find_group l.context.number (map by_number (drop l.made-index l.made-items))
