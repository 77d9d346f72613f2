use Rattle.std.proofs.Common.{refl, subst}
use Rattle.ulfm_world.proofs.Common.{IsJob, JobView, MadeAtRest}
use Rattle.ulfm_replay.proofs.Swept.{steps_few}
use Rattle.ulfm_replay.proofs.sweeps.line_at.Goals as goal

pub of-requires : goal.of-requires
of-requires c = rw c.as_slice.ensures.value (steps_few c.in-Ok.stopped _ (subst IsJob c.stopped.view_is c.stopped.invariant) c.in-Ok-replay.ensures.settled)

pub returns-clause-swept : goal.returns-clause-swept
returns-clause-swept c =
    let reports = c.in-Ok-replay.reports.items in
    rw (c.of.ensures, c.as_slice.ensures.value) (record {
      reports = reports;
      settled = subst (λ (j : JobView). MadeAtRest j reports) c.in-Ok.ensures.exact c.in-Ok-replay.ensures.settled;
      counted = refl;
    })
