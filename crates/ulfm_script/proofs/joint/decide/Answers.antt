use Rattle.std.proofs.Common.{inl, inr, refl, subst}
use Rattle.ulfm_board.specs.Known.{Starves}
use Rattle.ulfm_script.proofs.joint.decide.Goals as goal

pub decide-requires : goal.decide-requires
decide-requires g c = let p = c.in_ok-proposal.ensures.proposed in ∣ record { ranks = c.args.rank.now.state.ranks; me = c.args.rank.now.state.me; log = c.args.rank.now.state.log; topic = p.topic; proposal = p.on.proposed } ∣₁

pub returns-in-Ok-clause-answers : goal.returns-in-Ok-clause-answers
returns-in-Ok-clause-answers g c =
    let p = c.in_ok-proposal.ensures.proposed in record {
      topic = p.topic;
      about = p.about;
      accepted = p.on.accepted;
      proposal = c.in_ok-proposal.proposal;
      proposed = p.on.proposed;
      outcome = inl (record { held = c.in-Ok.held; board_answers = c.in-Ok.ensures.answers; adoption = c.adopt.ensures.answers p.topic p.about });
    }

pub returns-in-Err-clause-answers : goal.returns-in-Err-clause-answers
returns-in-Err-clause-answers g c =
    let p = c.in_ok-proposal.ensures.proposed in record {
      topic = p.topic;
      about = p.about;
      accepted = p.on.accepted;
      proposal = c.in_ok-proposal.proposal;
      proposed = p.on.proposed;
      outcome = inr (record { starves = c.in-Err.ensures.starves; known_stay = c.in-Err.ensures.unchanged; refused = refl; rank_stays = refl });
    }

pub returns-in-Err-clause-room_lacked : goal.returns-in-Err-clause-room_lacked
returns-in-Err-clause-room_lacked g c lacks prepared =
    let p = c.in_ok-proposal.ensures.proposed in record {
      topic = p.topic;
      about = p.about;
      starves = subst (λ topic. Starves (g.D.Decider.known c.args.board.now) topic) p.on.proposed.about c.in-Err.ensures.starves;
    }
