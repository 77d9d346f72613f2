use Rattle.std.proofs.Common.{◌≡◌, map, replicate}
use Rattle.ulfm_log.proofs.Common.{contents_of, empty_box}
use Rattle.ulfm_log.proofs.outboxes.Outboxes.new.Given as goal

abbrev pub invariant-loop-dest : goal.invariant-loop-dest
invariant-loop-dest l = map contents_of l.slots.items ≡ replicate l.dest empty_box
