use Rattle.ulfm_carrier.proofs.Last.{of_others}
use Rattle.ulfm_bench.proofs.pairs.last.Goals as goal

pub returns-clause-others : goal.returns-clause-others
returns-clause-others g c = of_others _ c.pop.new.self.items c.pop.result c.pop.ensures.items c.requires.fresh
