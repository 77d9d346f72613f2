-- A slot may go to another thread, since a process may.
use mir.Raw.{raw}
use base.Fraction.{full_share}
use base.Shift.{Keyless}
use denote.RawPtr.{Ptr, block_ptr, null_ptr}
use denote.Memory.{lone}
use denote.Param.Send.{IsSend, part_keyless}
use Rattle.std.specs.Prelude.{Option, Some, None}
use Rattle.std.proofs.Crossing.{frees}
use Rattle.std_heap.proofs.Handle.{handle}
use Rattle.std_heap.specs.contracts.GlobalAllocator.TheImpl.{ghosts}
use Rattle.ulfm_c.specs.contracts.process.Process as P
use Rattle.ulfm_c.proofs.Crossing.{process_send}
use Rattle.ulfm_c.specs.Slot.{slot_owns}
use Rattle.ulfm_c.specs.contracts.slot.Slot.{the_row}

slot_keyless : (p : Ptr) (held : Option P.the_row.Denot) → Keyless (slot_owns (ghosts.dealloc_token handle) p held)
slot_keyless null_ptr None = tt
slot_keyless (block_ptr b o) None = tt
slot_keyless (block_ptr b o) (Some x) = (part_keyless P.the_row process_send full_share x b o, frees.frees handle (raw (lone P.the_row.mir)) (block_ptr b o))
slot_keyless null_ptr (Some x) = (tt, frees.frees handle (raw (lone P.the_row.mir)) null_ptr)

pub send : IsSend the_row
send = record { owned = λ s vs. ((λ vss. (tt, (tt, tt))), slot_keyless s.at s.held); leaving = λ k d w. tt }
