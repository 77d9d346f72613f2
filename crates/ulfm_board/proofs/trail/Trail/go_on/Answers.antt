use Rattle.ulfm_board.proofs.Goes.{went_on}
use Rattle.ulfm_board.proofs.trail.Trail.go_on.Goals as goal

pub returns-clause-goes_on : goal.returns-clause-goes_on
returns-clause-goes_on c = went_on c.args.self.now c.chunk.new.self c.enter.new.self c.chunk.new.self.chunks c.chunk.ensures.only c.enter.result c.enter.ensures.goes_on
