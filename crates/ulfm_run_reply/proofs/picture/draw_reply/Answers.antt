use Rattle.std.proofs.Common.{◌≡◌, ap, subst}
use Rattle.std.proofs.lemmas.Result.{IfOk-weaker}
use Rattle.ulfm_job.specs.Job.{JobView}
use Rattle.ulfm_reader.specs.declared.reading.Reading.{Reading}
use Rattle.ulfm_world.specs.Replay.{MadeAtRest}
use Rattle.ulfm_command_line.specs.Stopped.{IsAsked, asked_view}
use Rattle.ulfm_run_reply.specs.AnyBody.{text_in}
use Rattle.ulfm_run_reply.specs.Played.{drawn, given_turns, not_drawn}
use Rattle.ulfm_run_reply.proofs.picture.draw_reply.Goals as goal

pub returns-in-Err : goal.returns-in-Err
returns-in-Err c = rw (c.plain.ensures.status, c.plain.ensures.body) (not_drawn _ _ (subst (IsAsked c.args.place c.args.bytes.now) c.in-Err.is c.in_ok-read.ensures c.args.form))

pub returns-in-Ok-replay_in_order : goal.returns-in-Ok-replay_in_order
returns-in-Ok-replay_in_order c =
    let reports = c.in-Ok-replay_in_order.played.reports.items in
    let asked = subst (IsAsked c.args.place c.args.bytes.now) c.in-Ok.is c.in_ok-read.ensures in
    let job : c.given_turns-asked.result.job ≡ given_turns c.args.turns c.in-Ok.asked.job = ap (λ (asked : Reading). asked.job) c.given_turns-asked.ensures in
    IfOk-weaker c.picture_of.result _ _ (λ r h. rw h (drawn (asked_view c.in-Ok.asked) reports (text_in c.args.form r.body) asked
    (subst (λ (j : JobView). MadeAtRest j reports) job c.in-Ok-replay_in_order.ensures.settled))) c.picture_of.ensures
