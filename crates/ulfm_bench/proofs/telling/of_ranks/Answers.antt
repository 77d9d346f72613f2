use denote.Exit.{no}
use denote.Param.Send.{param_send, arg_send}
use Rattle.ulfm_bench.proofs.Crossing.{lanes_send, inboxes_send}
use Rattle.ulfm_bench.proofs.telling.of_ranks.Goals as goal

pub there-requires-send-P : goal.there-requires-send-P
there-requires-send-P g c κs within = param_send 1 _ (arg_send _ no _ lanes_send)

pub there-requires-2-send-P : goal.there-requires-2-send-P
there-requires-2-send-P g c κs within = param_send 1 _ (arg_send _ no _ inboxes_send)

pub and_back-requires-send-P : goal.and_back-requires-send-P
and_back-requires-send-P g c κs within = param_send 1 _ (arg_send _ no _ lanes_send)

pub and_back-requires-2-send-P : goal.and_back-requires-2-send-P
and_back-requires-2-send-P g c κs within = param_send 1 _ (arg_send _ no _ inboxes_send)
