use Rattle.ulfm_script.proofs.hands.push_to.Given as goal

abbrev pub invariant-loop-moved : goal.invariant-loop-moved
invariant-loop-moved g l = g.H.Hands.moves l.fn.hands l.hands l.moved

abbrev pub decreases-loop-moved : goal.decreases-loop-moved
decreases-loop-moved g l = g.H.Hands.waits l.hands l.fn.dest
