use Rattle.std.proofs.Common.{◌≡◌, false}
use Rattle.ulfm_log.proofs.Slots.{Reserving}
use Rattle.ulfm_log.proofs.outboxes.Outboxes.reserve.Given as goal

abbrev pub invariant-loop-d : goal.invariant-loop-d
invariant-loop-d l = Reserving l.initial.self-inside.slots.items l.self-inside.slots.items l.d × (l.self-inside.roomy ≡ false)
