use Rattle.std.proofs.Common.{◌≡◌, ap, subst}
use Rattle.ulfm_job.specs.Job.{JobView}
use Rattle.ulfm_reader.specs.declared.reading.Reading.{Reading}
use Rattle.ulfm_world.specs.Replay.{MadeAtRest}
use Rattle.ulfm_command_line.specs.Stopped.{IsAsked, asked_view}
use Rattle.ulfm_run_reply.specs.Played.{given_turns, not_replayed, traced}
use Rattle.ulfm_run_reply.proofs.replayed.replay_reply.Goals as goal

pub returns-in-Err : goal.returns-in-Err
returns-in-Err c = λ form. rw (c.plain.ensures.status, c.plain.ensures.body) (not_replayed _ _ (subst (IsAsked c.args.place c.args.bytes.now) c.in-Err.is c.in_ok-read.ensures form))

pub returns-in-Ok-replay : goal.returns-in-Ok-replay
returns-in-Ok-replay c =
    let reports = c.in-Ok-replay.reports.items in
    let given = c.given_turns-asked.ensures in
    let asked = subst (IsAsked c.args.place c.args.bytes.now) c.in-Ok.is c.in_ok-read.ensures in
    let job : c.given_turns-asked.result.job ≡ given_turns c.args.turns c.in-Ok.asked.job = ap (λ (asked : Reading). asked.job) given in
    λ form. rw (c.trace_reply.ensures.status, c.trace_reply.ensures.body, given) (traced (asked_view c.in-Ok.asked) reports asked
    (subst (λ (j : JobView). MadeAtRest j reports) job c.in-Ok-replay.ensures.settled))
