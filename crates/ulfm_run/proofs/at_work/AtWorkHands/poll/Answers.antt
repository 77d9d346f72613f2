use Rattle.std.proofs.Common.{inr, refl, sym, ap, subst, arith, ◌∙◌, ◌<◌}
use Rattle.ulfm_run.proofs.Common.{polls_left, script_at, is_stopped, IsState, State}
use Rattle.ulfm_run.proofs.Working.{at-work-polled, at-work-skipped, not-over}
use Rattle.ulfm_run.proofs.at_work.AtWorkHands.poll.Goals as goal

pub poll-answered-requires : goal.poll-answered-requires
poll-answered-requires g c =
    let skips = c.in-Some.ensures.skips in
    record {
      sound = subst IsState (sym skips.same_rank) c.requires.fits.joined.sound;
      follows = skips.follows;
      room = omega (arith, skips.room, c.requires.fits.room);
      running = ap (λ (r : State). is_stopped r.log) skips.same_rank ∙ sym c.is_stopped.ensures ∙ c.if-is_stopped.false;
      next = c.in-Some.ensures.next;
      played = c.in-Some.ensures.played;
    }

pub returns : goal.returns
returns g c =
    let running = sym c.is_stopped.ensures ∙ c.if-is_stopped.false in let skips = c.in-Some.ensures.skips in
    let script = script_at c.args.self.now.job.now c.args.self.now.me in let turns = c.args.self.now.job.now.turns in
    let falls : polls_left script turns c.poll-answered.new.player.player < polls_left script turns c.args.self.now.worker.player.player = omega (arith, c.poll-answered.ensures.polls.falls, skips.left) in
    record {
      polls = (
        refl,
        refl,
        record {
          at_work = λ h. at-work-polled (at-work-skipped h skips) c.poll-answered.ensures.polls;
          same_end = refl;
          same_board = c.poll-answered.ensures.board;
          honest = λ h. c.poll-answered.ensures.honest (c.in-Some.ensures.honest _ h);
        },
        (not-over script turns c.args.self.now.worker.player.player running falls, falls),
      );
    }

pub returns-in_default : goal.returns-in_default
returns-in_default g c =
    let skips = c.in_default.ensures.skips in record {
      polls = (
        refl,
        refl,
        record {
          at_work = λ h. at-work-skipped h skips;
          same_end = refl;
          same_board = refl;
          honest = λ h. c.in_default.ensures.honest _ h;
        },
        (inr c.in_default.ensures.none, skips.left),
      );
    }
