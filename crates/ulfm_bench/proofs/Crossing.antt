-- A rank at its end of a way may go to another thread.
use denote.RattleType.{RattleType}
use denote.Param.Send.{IsSend, sendable}
use Rattle.std.proofs.Crossing.{crosses}
use Rattle.ulfm_rank.proofs.Crossing.{rank_send}
use Rattle.ulfm_bench.specs.contracts.side.Side as side
use Rattle.ulfm_bench.specs.contracts.way.Lane as lane
use Rattle.ulfm_bench.specs.contracts.way.Shared as shared
use Rattle.ulfm_bench.proofs.way.Lane.TheSendSync as crossing_lane
use Rattle.ulfm_bench.proofs.way.Shared.TheSendSync as crossing_shared

side_send : (W : RattleType) → IsSend W → IsSend (side.the_row W)
side_send W w = search (rank_send, sendable, crosses) depth 40 fits 20000

pub lanes_send : IsSend (side.the_row lane.the_row)
lanes_send = side_send lane.the_row crossing_lane.the_send

pub inboxes_send : IsSend (side.the_row shared.the_row)
inboxes_send = side_send shared.the_row crossing_shared.the_send
