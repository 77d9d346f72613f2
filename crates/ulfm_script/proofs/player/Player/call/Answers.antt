use Rattle.std.proofs.Common.{◌∙◌, ◌≡◌, false, sym, ap, inl, inr}
use Rattle.ulfm_script.proofs.Common.{PlayerView, awaits_decision}
use Rattle.ulfm_script.proofs.player.Player.call.Goals as goal

pub returns-in-Some-clause-polls : goal.returns-in-Some-clause-polls
returns-in-Some-clause-polls c =
    let first : awaits_decision c.self.inside.current ≡ false = ap (λ (v : PlayerView). awaits_decision v.player.current) c.self.view_is ∙ sym c.awaits_decision.ensures ∙ c.if-awaits_decision.false in rw (← c.self.view_is) (record {
      first = first;
      answer = c.in-Some.answer;
      rank = c.poll.new.rank.state;
      answers = c.in-Some.ensures.answers;
      only = rw c.log-at.ensures at c.answer.ensures.player;
    })

pub returns-in-Some-clause-called : goal.returns-in-Some-clause-called
returns-in-Some-clause-called c = inl (returns-in-Some-clause-polls c)

pub returns-in-None-clause-polls : goal.returns-in-None-clause-polls
returns-in-None-clause-polls c =
    let first : awaits_decision c.self.inside.current ≡ false = ap (λ (v : PlayerView). awaits_decision v.player.current) c.self.view_is ∙ sym c.awaits_decision.ensures ∙ c.if-awaits_decision.false in rw (← c.self.view_is) (record {
      rank = c.poll.new.rank.state;
      stays = rw first c.in-None.ensures.stays_open;
      only = rw c.log-at.ensures at c.stay_open-in-None.ensures.player;
    })

pub returns-in-None-clause-called : goal.returns-in-None-clause-called
returns-in-None-clause-called c = inr (returns-in-None-clause-polls c)
