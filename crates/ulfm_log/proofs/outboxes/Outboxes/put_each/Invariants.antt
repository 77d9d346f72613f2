use Rattle.ulfm_log.proofs.Common.{has, item_of_word}
use Rattle.ulfm_log.proofs.Slots.{Leaving}
use Rattle.ulfm_log.proofs.outboxes.Outboxes.put_each.Given as goal

abbrev pub invariant-loop-d : goal.invariant-loop-d
invariant-loop-d l = Leaving l.initial.self-inside.slots.items l.self-inside.slots.items l.d (item_of_word l.word) (has l.to)
