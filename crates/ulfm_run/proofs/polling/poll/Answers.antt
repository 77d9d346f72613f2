use Rattle.std.proofs.Common.{arith, ap, sym, ◌∙◌, subst}
use Rattle.ulfm_run.proofs.Common.{GoesThrough, is_stopped, IsState, Player}
use Rattle.ulfm_answer.specs.Reacting.{is_played}
use Rattle.ulfm_script.specs.Meant.{next_step}
use Rattle.ulfm_script.specs.inside.SoFar.{AnswersFollowSoFar, IsUndecided}
use Rattle.ulfm_run.proofs.Polled.{polls-after}
use Rattle.ulfm_run.proofs.polling.poll.Goals as goal

pub call-requires : goal.call-requires
call-requires g c =
    let same = c.decide.ensures.unchanged c.if-decide.false in
    record {
      sound = subst (λ (p : Player). IsState p.rank) (sym same) c.requires.sound;
      follows = subst (GoesThrough c.args.job.now c.args.me) (sym same) c.requires.follows;
      room = omega (arith, c.requires.room, c.decide.ensures.room);
      running = ap (λ (p : Player). is_stopped p.rank.log) same ∙ c.requires.running;
      next = ap (λ (p : Player). next_step c.args.job.now c.args.me p.done) same ∙ c.requires.next;
      played = ap (λ (p : Player). is_played c.args.job.now.conditions c.args.me p.done) same ∙ c.requires.played;
    }

pub returns-clause-polls : goal.returns-clause-polls
returns-clause-polls g c = polls-after c.args.player.now (c.decide.ensures.unchanged c.if-decide.false) c.decide.ensures.room c.call.ensures.polls

pub returns-clause-honest : goal.returns-clause-honest
returns-clause-honest g c h =
    let same = c.decide.ensures.unchanged c.if-decide.false in
    c.call.ensures.honest (g.D.Decider.known c.decide.new.decider)
    (subst (AnswersFollowSoFar (g.D.Decider.known c.decide.new.decider)) (sym same) (subst (λ known. AnswersFollowSoFar known c.args.player.now.player) (sym (c.decide.ensures.known_stay c.if-decide.false)) h))
    (subst IsUndecided (sym same) (c.decide.ensures.undecided c.if-decide.false))
