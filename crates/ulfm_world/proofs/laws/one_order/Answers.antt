use Rattle.ulfm_report_laws.specs.Order.{HaveOneOrder}
use Rattle.ulfm_world.proofs.OneOrder.{one_order}
use Rattle.ulfm_world.proofs.Reported.{of_replay}
use Rattle.ulfm_world.proofs.laws.one_order.Goals as goal

pub returns : goal.returns
returns c = record { worlds = one_order; replays = of_replay HaveOneOrder one_order }
