use Rattle.ulfm_world.proofs.Common.{ReceivesKeepOrder}
use Rattle.ulfm_report_laws.proofs.Order.{receives_keep_order}
use Rattle.ulfm_world.proofs.Reported.{in_world, in_replay}
use Rattle.ulfm_world.proofs.laws.receives_keep_order.Goals as goal

pub returns : goal.returns
returns c = record { worlds = in_world ReceivesKeepOrder receives_keep_order; replays = in_replay ReceivesKeepOrder receives_keep_order }
