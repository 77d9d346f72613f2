use Rattle.std.proofs.Common.{arith}
use Rattle.ulfm_run.proofs.Common.{length-map}
use Rattle.ulfm_run.proofs.Paired.{all_agree}
use Rattle.ulfm_run.proofs.comparing.compare_all.Goals as goal

pub returns-clause-agree : goal.returns-clause-agree
returns-clause-agree g c = all_agree _ c.loop-second.second (omega (arith, c.loop-second-test.false, length-map c.args.deciders.now g.D.Decider.known)) c.loop-second.invariant.agree
