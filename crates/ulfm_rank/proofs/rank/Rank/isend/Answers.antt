use Rattle.ulfm_log.proofs.Sifted.{quiet, silent}
use Rattle.std.proofs.Common.{◌++◌, ◌∷◌, [], refl, ap, ◌∙◌, arith}
use Rattle.ulfm_rank.proofs.Common.{Letter, Sent, State, RankView}
use Rattle.ulfm_log.proofs.Held.{marks-grown}
use Rattle.ulfm_rank.proofs.Following.{follows_sent}
use Rattle.ulfm_rank.proofs.Seen.{stop_places_few, state_logged}
use Rattle.ulfm_rank.proofs.rank.Rank.isend.Goals as goal

pub invariant_of-self-2 : goal.invariant_of-self-2
invariant_of-self-2 c =
    let a = c.self.inside in
    let letter : Letter = record { envelope = record { context = c.args.comm.context; source = a.me; tag = c.args.tag }; body = c.in_ok-body.body } in
    let now_log = c.push_reserved.ensures.items ∙ ap (λ l. l ++ Sent c.in_ok-to.to c.of-noted.result ∷ []) c.reserve.ensures.items ∙ ap (λ x. a.log.items ++ Sent c.in_ok-to.to x ∷ []) c.of-noted.ensures in
    let grows = rw c.in_ok-reserve-2.ensures.boxes at c.put.ensures in
    record {
      follows = rw now_log (follows_sent c.self.invariant.follows c.in_ok-to.to letter c.put.new.self.boxes grows);
      places = omega (arith, c.in_ok-reserve.ensures.ok, c.push_reserved.ensures.len, c.push_reserved.ensures.capacity, c.len.ensures.len, stop_places_few a.stopped);
      tells = quiet _ _ _ _ now_log c.self.invariant.tells silent;
      countable = omega (arith, c.push_reserved.ensures.capacity, c.reserve.ensures.countable);
    }

pub returns-clause-sends : goal.returns-clause-sends
returns-clause-sends c =
    let a = c.self.inside in
    let seen = ap (λ (v : RankView). v.state) c.self.view_is in
    let letter : Letter = record { envelope = record { context = c.args.comm.context; source = a.me; tag = c.args.tag }; body = c.in_ok-body.body } in
    let now_log = c.push_reserved.ensures.items ∙ ap (λ l. l ++ Sent c.in_ok-to.to c.of-noted.result ∷ []) c.reserve.ensures.items ∙ ap (λ x. a.log.items ++ Sent c.in_ok-to.to x ∷ []) c.of-noted.ensures in
    let grows = rw c.in_ok-reserve-2.ensures.boxes at c.put.ensures in
    record {
      to = c.in_ok-to.to;
      letter = letter;
      named = c.in_ok-to.ensures.named;
      context = refl;
      source = ap (λ (s : State). s.me) seen;
      has_tag = refl;
      carries = c.in_ok-body.ensures.bytes;
      only = state_logged a.outboxes.boxes c.put.new.self.boxes (Sent c.in_ok-to.to letter) seen now_log (marks-grown grows) (c.push_reserved.ensures.keeps ∙ c.reserve.ensures.keeps);
    }
