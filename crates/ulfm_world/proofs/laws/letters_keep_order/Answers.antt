use Rattle.ulfm_world.proofs.Common.{LettersKeepOrder}
use Rattle.ulfm_report_laws.proofs.Order.{letters_keep_order}
use Rattle.ulfm_world.proofs.Reported.{in_world, in_replay}
use Rattle.ulfm_world.proofs.laws.letters_keep_order.Goals as goal

pub returns : goal.returns
returns c = record { worlds = in_world LettersKeepOrder letters_keep_order; replays = in_replay LettersKeepOrder letters_keep_order }
