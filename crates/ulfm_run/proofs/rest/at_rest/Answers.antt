use Rattle.std.proofs.Common.{arith, refl}
use Rattle.ulfm_run.proofs.Common.{contents, slice_get_within, IsServed, IsRunning}
use Rattle.ulfm_run.proofs.Served.{each_more}
use Rattle.ulfm_run.proofs.rest.at_rest.Goals as goal

pub loop-d-preserved : goal.loop-d-preserved
loop-d-preserved g c =
    each_more (λ k told. IsRunning told → IsServed (contents c.args.report.now.residue.inboxes.items) c.args.report.now.ranks.items k) c.args.report.now.ranks.items c.loop-d.d c.loop-d.invariant
    (omega (arith, c.loop-d-test.true, c.len-d-end.ensures, c.args.report.now.ranks.ok)) c.index.ensures (c.is_resting.ensures.0 c.if-not-is_resting.false)

pub returns : goal.returns
returns g c =
    (λ yes d told here running. c.loop-d.invariant d told (omega (arith, slice_get_within c.args.report.now.ranks.items d told here, c.loop-d-test.false, c.len-d-end.ensures, c.args.report.now.ranks.ok)) here running, λ all. refl)
