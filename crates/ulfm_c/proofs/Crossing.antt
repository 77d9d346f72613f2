-- A process may go to another thread.
use denote.Param.Send.{AllSend, IsSend, recorded_send, struct_send, view_send}
use denote.Struct.Declared.{fields, shape}
use denote.Struct.Struct.{Struct}
use Rattle.ulfm_board.proofs.seat.Seat.TheSendSync as seat
use Rattle.ulfm_carrier.proofs.lane_ends.LaneEnds.TheSendSync as lanes
use Rattle.ulfm_rank.proofs.Crossing.{rank_send}
use Rattle.ulfm_c.specs.contracts.process.Process as process
use Rattle.ulfm_c.specs.contracts.process.Process.TheInside as inside

pub process_send : IsSend process.the_row
process_send =
    let all : AllSend (fields inside.the_type) = (rank_send, (lanes.the_field_send, (seat.the_field_send, tt))) in
    view_send inside.the_row _ _ _ _ (recorded_send (Struct (shape inside.the_type)) (inside.the_type).D (inside.the_type).to (inside.the_type).to_one (struct_send (shape inside.the_type) all))
