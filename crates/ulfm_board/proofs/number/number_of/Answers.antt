use Rattle.ulfm_board.proofs.Topics.{topics_apart}
use Rattle.ulfm_board.proofs.number.number_of.Goals as goal

pub returns-clause-own : goal.returns-clause-own
returns-clause-own c = λ other same. topics_apart other c.args.topic same
