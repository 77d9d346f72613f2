use Rattle.std.proofs.lemmas.Result.{IfOk-weaker}
use Rattle.ulfm_reader.specs.Plan.{plan_of}
use Rattle.ulfm_command_line.specs.Body.{body_in}
use Rattle.ulfm_command_line.specs.Expanded.{expanded}
use Rattle.ulfm_command_line.proofs.Refused.{expand_refused}
use Rattle.ulfm_command_line.proofs.expansion.expand_reply.Goals as goal

pub returns-in-Ok : goal.returns-in-Ok
returns-in-Ok c =
    IfOk-weaker c.good_reply.result _ _ (λ r h form. expanded (plan_of c.in-Ok._job) h.0 r.status (body_in form r.body) c.in-Ok.ensures h.1 (h.2 form)) c.good_reply.ensures

pub returns-in-Err : goal.returns-in-Err
returns-in-Err c = λ form. rw (c.refusal.ensures.status, c.refusal.ensures.body) (expand_refused c.in-Err.fault _ c.in-Err.ensures)
