use Rattle.std.proofs.Common.{ap, arith, inl, inr, ◌∙◌}
use Rattle.ulfm_job.specs.Job.{turns_at}
use Rattle.ulfm_script.proofs.Calling.{honest-called}
use Rattle.ulfm_script.proofs.MeantAlong.{next-played, next-within}
use Rattle.ulfm_script.specs.Meant.{played_script}
use Rattle.ulfm_run.proofs.Common.{honest-left, next-free}
use Rattle.ulfm_run.proofs.Polled.{polls-call, polls-leave, answered_none}
use Rattle.ulfm_run.proofs.polling.call.Goals as goal

pub call-requires-clause-free : goal.call-requires-clause-free
call-requires-clause-free c = next-free (played_script c.args.job.now c.args.me c.args.player.now.player.done) c.args.job.now.turns c.args.player.now.player c.args.asked.now c.requires.follows.follows (next-played c.args.job.now c.args.me c.args.player.now.player.done ∙ c.requires.next)

pub call-requires-clause-room : goal.call-requires-clause-room
call-requires-clause-room c = λ _. omega (arith, c.requires.room, next-within c.args.job.now c.args.me c.args.player.now.player.done c.args.asked.now c.requires.next)

pub returns-in-Answered : goal.returns-in-Answered
returns-in-Answered c = record {
  polls = polls-call c.args.me c.args.player.now c.call.new.self c.turns_at-turns.ensures.ranges c.requires.sound c.requires.follows c.requires.running c.requires.next c.requires.played c.call.ensures.called (inl (answered_none c.call.result c.args.player.now.player c.args.asked.now c.call.new.self.player c.in-Answered.is c.call.ensures.polls)) c.call.ensures.room;
  honest = λ known h u. honest-called known (played_script c.args.job.now c.args.me c.args.player.now.player.done) c.args.job.now.turns c.args.player.now.player c.args.asked.now c.call.new.self.player h c.requires.running c.requires.follows.follows.current (next-played c.args.job.now c.args.me c.args.player.now.player.done ∙ c.requires.next) u c.call.ensures.called;
}

pub returns-then-polls-turns : goal.returns-then-polls-turns
returns-then-polls-turns c = record {
  polls = polls-call c.args.me c.args.player.now c.call.new.self c.turns_at-turns.ensures.ranges c.requires.sound c.requires.follows c.requires.running c.requires.next c.requires.played c.call.ensures.called (inr (omega (arith, c.polls.ensures, c.turns_at-turns.ensures.most, c.if-polls-turns.true))) c.call.ensures.room;
  honest = λ known h u. honest-called known (played_script c.args.job.now c.args.me c.args.player.now.player.done) c.args.job.now.turns c.args.player.now.player c.args.asked.now c.call.new.self.player h c.requires.running c.requires.follows.follows.current (next-played c.args.job.now c.args.me c.args.player.now.player.done ∙ c.requires.next) u c.call.ensures.called;
}

pub returns : goal.returns
returns c = record {
  polls = polls-leave c.args.me c.args.player.now c.call.new.self c.leave.new.self c.turns_at-turns.ensures.ranges c.requires.sound c.requires.follows c.requires.running c.requires.next c.requires.played c.call.ensures.called c.leave.ensures.left (omega (arith, c.polls.ensures, c.turns_at-turns.ensures.exact ∙ ap (turns_at c.args.job.now c.args.me) c.answered.ensures, c.if-polls-turns.false)) (c.leave.ensures.room ∙ c.call.ensures.room);
  honest = λ known h u. honest-left known c.call.new.self.player c.leave.new.self.player (honest-called known (played_script c.args.job.now c.args.me c.args.player.now.player.done) c.args.job.now.turns c.args.player.now.player c.args.asked.now c.call.new.self.player h c.requires.running c.requires.follows.follows.current (next-played c.args.job.now c.args.me c.args.player.now.player.done ∙ c.requires.next) u c.call.ensures.called) c.leave.ensures.left;
}
