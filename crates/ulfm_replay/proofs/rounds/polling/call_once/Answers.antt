use Rattle.std.proofs.Common.{ap, ◌∙◌, arith, inl, inr}
use Rattle.ulfm_job.specs.Job.{turns_at}
use Rattle.ulfm_world.proofs.MovesCall.{moves-call, moves-leave, none_open}
use Rattle.ulfm_script.proofs.Advance.{ready-at}
use Rattle.ulfm_world.proofs.Common.{player_at}
use Rattle.ulfm_world.proofs.Refusals.{leave-goes}
use Rattle.ulfm_replay.proofs.rounds.polling.call_once.Goals as goal

pub returns-in-Ok-Answered : goal.returns-in-Ok-Answered
returns-in-Ok-Answered c =
    let ready = ready-at c.args.job.now c.args.r (player_at c.args.world.now c.args.r) c.args.asked.now c.turns_at-turns.ensures.ranges (c.requires.follows c.args.r c.requires.inside).follows c.requires.running c.requires.next in
    moves-call c.args.r c.apply.new.world c.turns_at-turns.ensures.ranges c.in-Ok-Answered.ensures.world c.requires.inside c.requires.follows ready c.requires.played c.requires.undecided (rw c.again.ensures at c.in-Ok-Answered.ensures.happens) (inl (none_open _ c.in-Ok-Answered.ensures.outcome c.in-Ok-Answered.field-0-is))

pub returns-then-polls-turns : goal.returns-then-polls-turns
returns-then-polls-turns c =
    let ready = ready-at c.args.job.now c.args.r (player_at c.args.world.now c.args.r) c.args.asked.now c.turns_at-turns.ensures.ranges (c.requires.follows c.args.r c.requires.inside).follows c.requires.running c.requires.next in
    moves-call c.args.r c.apply.new.world c.turns_at-turns.ensures.ranges c.in-Ok.ensures.world c.requires.inside c.requires.follows ready c.requires.played c.requires.undecided (rw c.again.ensures at c.in-Ok.ensures.happens) (inr (omega (arith, c.polls.ensures, c.turns_at-turns.ensures.most, c.if-polls-turns.true)))

pub returns : goal.returns
returns c =
    let ready = ready-at c.args.job.now c.args.r (player_at c.args.world.now c.args.r) c.args.asked.now c.turns_at-turns.ensures.ranges (c.requires.follows c.args.r c.requires.inside).follows c.requires.running c.requires.next in
    moves-leave c.args.r c.apply.new.world c.apply-2.new.world c.turns_at-turns.ensures.ranges c.in-Ok.ensures.world c.requires.inside c.requires.follows ready c.requires.played c.requires.undecided (rw c.again.ensures at c.in-Ok.ensures.happens) c.in-Ok-apply.ensures.happens (omega (arith, c.polls.ensures, c.turns_at-turns.ensures.exact ∙ ap (turns_at c.args.job.now c.args.r) c.answered.ensures, c.if-polls-turns.false))

pub unreachable-requires-in-Err-apply : goal.unreachable-requires-in-Err-apply
unreachable-requires-in-Err-apply c =
    leave-goes c.args.world.now c.apply.new.world c.args.r c.args.asked.now c.in-Err-apply.field-0 (rw c.again.ensures at c.in-Ok.ensures.happens) (omega (arith, c.polls.ensures, c.if-polls-turns.false, c.turns_at-turns.ensures.some)) c.in-Err-apply.ensures.refused
