use Rattle.ulfm_script.proofs.Advance.{ready-at}
use Rattle.ulfm_world.proofs.Common.{player_at}
use Rattle.ulfm_world.proofs.MovesCall.{moves-skip}
use Rattle.ulfm_replay.proofs.rounds.polling.skip.Goals as goal

pub returns-in-Ok : goal.returns-in-Ok
returns-in-Ok c =
    let q = c.requires in let job = c.turns.ensures.ranges in
    let ready = ready-at c.args.job.now c.args.r (player_at c.args.world.now c.args.r) c.args.asked.now job (q.follows c.args.r q.inside).follows q.running q.next in
    moves-skip c.args.r c.apply.new.world c.in-Ok.ensures.world q.inside q.follows ready q.skipped (rw c.again.ensures at c.in-Ok.ensures.happens)
