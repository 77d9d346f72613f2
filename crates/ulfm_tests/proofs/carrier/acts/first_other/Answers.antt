use Rattle.ulfm_tests.proofs.carrier.acts.first_other.Goals as goal
use Rattle.ulfm_tests.proofs.carrier.acts.first_other.Goals.{in-Push+in_ok-push-in-Push, in-Pop+in_ok-pop-in-Pop}

pub returns-then-not-comes-clause-ready : goal.returns-then-not-comes-clause-ready
returns-then-not-comes-clause-ready g c = elim c.match-act.branch [
  | in-Push+in_ok-push-in-Push w ↦ rw w.ends-is w.push.ensures.ready
  | in-Pop+in_ok-pop-in-Pop w ↦ rw w.ends-is w.pop.ensures.ready
]

pub loop-place-preserved : goal.loop-place-preserved
loop-place-preserved g c = elim c.match-act.branch [
  | in-Push+in_ok-push-in-Push w ↦ rw w.ends-is (record { family = w.push.ensures.family; ready = w.push.ensures.ready })
  | in-Pop+in_ok-pop-in-Pop w ↦ rw w.ends-is (record { family = w.pop.ensures.family; ready = w.pop.ensures.ready })
]
