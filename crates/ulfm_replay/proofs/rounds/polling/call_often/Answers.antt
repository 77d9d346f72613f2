use Rattle.std.proofs.Common.{inl, inr}
use Rattle.ulfm_script.proofs.Advance.{ready-at}
use Rattle.ulfm_world.proofs.Common.{player_at}
use Rattle.ulfm_world.proofs.MovesCall.{moves-call}
use Rattle.ulfm_world.proofs.Often.{moves-many, open_now}
use Rattle.ulfm_replay.proofs.rounds.polling.call_often.Goals as goal

pub returns-in-Ok : goal.returns-in-Ok
returns-in-Ok c =
    let a = c.args in let q = c.requires in let job = c.turns.ensures.ranges in let told = c.in-Ok.ensures in
    let follows = (q.follows a.r q.inside).follows in
    elim told.told [
      | inl is ↦ moves-call a.r c.call_often.new.self job told.world q.inside q.follows (ready-at a.job.now a.r (player_at a.world.now a.r) a.asked.now job follows q.running q.next) q.played q.undecided (told.answered is).0 (inl (told.answered is).1)
      | inr is ↦ moves-many job a.r a.asked.now a.times a.world.now c.call_often.new.self told.world q.inside q.follows q.running (open_now a.job.now a.r (player_at a.world.now a.r) a.asked.now follows q.next q.open) q.undecided q.some q.spare (told.in_vain is)
    ]
