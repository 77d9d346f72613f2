use Rattle.std.proofs.Common.{◌≡◌, ◌∙◌, ap, sym}
use Rattle.std.proofs.lemmas.Bool.{and_parts}
use Rattle.std.proofs.lemmas.List.{same_from_push}
use Rattle.ulfm_script.proofs.Common.{StepReport}
use Rattle.ulfm_script.proofs.player.Player.decide.Goals as goal

pub returns-in-Some-decide-clause-decides : goal.returns-in-Some-decide-clause-decides
returns-in-Some-decide-clause-decides g c =
    rw (← c.self.view_is) (record {
      asked = c.in-Some.step;
      waits = rw (← c.self.view_is) at c.in-Some.ensures.found.0;
      on = c.in-Some.ensures.found.1;
      answer = c.in-Some-decide.answer;
      rank = c.decide.new.rank.state;
      decision = c.in-Some-decide.ensures.answers;
      only = rw (c.of.ensures, c.log-at.ensures) at c.answer.ensures.player;
    })

pub returns-in-Some-decide-clause-room_lacked : goal.returns-in-Some-decide-clause-room_lacked
returns-in-Some-decide-clause-room_lacked g c report done refused prepared =
    let said : report.answer ≡ c.in-Some-decide.answer = ap (λ (x : StepReport). x.answer) (same_from_push _ _ _ _ (sym done ∙ ap (λ p. p.done) c.answer.ensures.player)).1 in
    rw (← c.self.view_is) (c.in-Some.step, rw (← c.self.view_is) at c.in-Some.ensures.found.0, c.in-Some-decide.ensures.room_lacked (sym said ∙ refused) (and_parts c.self.inside.rank.prepared c.self.inside.rank.has_place (rw (← c.self.view_is) at prepared)).0)
