use Rattle.std.proofs.Common.{arith}
use Rattle.ulfm_carrier.proofs.Common.{view}
use Rattle.ulfm_carrier.proofs.Emptied.{none_above, told_left}
use Rattle.ulfm_carrier.proofs.shared_ends.SharedEnds.empty.Goals as goal

pub returns-clause-left : goal.returns-clause-left
returns-clause-left g c = told_left (view c.args.self.now.inlet) c.take_all.new.left.items c.args.self.now.gathered c.requires.receiver.live c.take_all.ensures.taken c.take_all.ensures.all

pub returns-clause-no_others : goal.returns-clause-no_others
returns-clause-no_others g c = λ s past.
    let e = c.args.self.now in
    none_above (view e.inlet).made s c.take_all.new.left.items c.take_all.ensures.senders (omega (arith, past, c.requires.receiver.made, e.outs.ok))
