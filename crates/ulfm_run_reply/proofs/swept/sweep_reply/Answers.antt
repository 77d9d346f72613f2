use Rattle.ulfm_run_reply.specs.Sweep.{swept}
use Rattle.ulfm_run_reply.proofs.Unswept.{not_both, sweep_refused, sweep_unmade}
use Rattle.ulfm_run_reply.proofs.swept.sweep_reply.Goals as goal

pub returns-in-Err : goal.returns-in-Err
returns-in-Err c = λ form. rw (c.plain.ensures.status, c.plain.ensures.body, c.refusal.ensures.status, c.refusal.ensures.body) (sweep_refused c.in-Err.fault _ c.in-Err.ensures)

pub returns-in-Ok-sweep : goal.returns-in-Ok-sweep
returns-in-Ok-sweep c = λ form. swept c.in-Ok.job c.in-Ok-sweep.lines.items c.in-Ok.ensures (λ many. not_both _ _ _ c.in-Ok-sweep.is (c.sweep.ensures.full many)) c.in-Ok-sweep.ensures.places c.in-Ok-sweep.ensures.swept

pub returns-in-Err-Job : goal.returns-in-Err-Job
returns-in-Err-Job c =
    let plain = c.plain-in-Err-Job.ensures in
    let refused = c.refusal-in-Err-Job.ensures in
    λ form. rw (plain.status, plain.body, refused.status, refused.body) (sweep_unmade c.in-Ok.job c.in-Err-Job.fault _ _ _ c.in-Ok.ensures c.in-Err-Job.is c.in-Err-Job.field-0-is c.sweep.ensures.full c.in-Err-Job.ensures.memory)
