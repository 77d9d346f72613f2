use Rattle.std.proofs.Common.{arith, ap, ◌∙◌, sym, ◌++◌, length, subst, slice_get, All}
use Rattle.ulfm_run.proofs.Common.{All-nil, All-push, begun_end, begun_decider, begun_ends, begun_deciders, IsOfJob, into_iter_items}
use Rattle.ulfm_run.proofs.Handed.{fresh_first, fresh_rest}
use Rattle.ulfm_carrier.proofs.Handed.{handed}
use Rattle.ulfm_run.proofs.threads.start_all.Goals as goal

pub loop-end-init : goal.loop-end-init
loop-end-init g c =
    let items = c.into_iter-end-iterator.ensures.into_iter_gives in record {
      room = omega (arith, ap length c.requires.room.0, c.args.handles.ok, items.1, c.requires.room.1);
      enough = omega (arith, items.1, c.into_iter-deciders.ensures.len, c.requires.fits.end_each, c.requires.fits.decider_each, c.args.ends.ok, c.args.deciders.ok);
      ends = ap (λ l. begun_ends l ++ into_iter_items c.into_iter-end-iterator.result) c.requires.room.0 ∙ items.0;
      deciders = ap (λ l. begun_deciders l ++ into_iter_items c.into_iter-deciders.result) c.requires.room.0 ∙ c.into_iter-deciders.ensures.rest;
      fresh = λ k e here. c.requires.fresh k e (ap (λ l. slice_get l k) (sym items.0) ∙ here);
      jobs = subst (All (IsOfJob c.args.shared.now.job.now)) (sym c.requires.room.0) (All-nil (IsOfJob c.args.shared.now.job.now));
    }

pub start_rank-requires-clause-fresh : goal.start_rank-requires-clause-fresh
start_rank-requires-clause-fresh g c = λ κs met. fresh_first g.E.Ends.count g.E.Ends.pushed g.E.Ends.taken g.E.Ends.ready c.loop-end.invariant.fresh c.in-Some.ensures.steps.0

pub loop-end-preserved : goal.loop-end-preserved
loop-end-preserved g c =
    let ends = c.in-Some.ensures.steps in let was = c.loop-end.invariant in
    let more = c.push_reserved.ensures.items in record {
      room = omega (arith, c.push_reserved.ensures.len, c.push_reserved.ensures.capacity, ends.1, was.room);
      enough = omega (arith, ends.1, was.enough, c.in-Some-next.ensures.len);
      ends = handed begun_end c.loop-end.handles.items c.in-Ok.handle was.ends ends.0 more c.in-Ok.ensures.1;
      deciders = handed begun_decider c.loop-end.handles.items c.in-Ok.handle was.deciders c.in-Some-next.ensures.items more c.in-Ok.ensures.2;
      fresh = fresh_rest g.E.Ends.count g.E.Ends.pushed g.E.Ends.taken g.E.Ends.ready was.fresh ends.0;
      jobs = subst (All (IsOfJob c.args.shared.now.job.now)) (sym more) (All-push (IsOfJob c.args.shared.now.job.now) c.loop-end.handles.items c.in-Ok.handle was.jobs c.in-Ok.ensures.0);
    }
