use Rattle.ulfm_log.proofs.Sifted.{counts_few, told_entered}
use Rattle.std.proofs.Common.{◌≡◌, ◌++◌, ◌∷◌, [], refl, ap, sym, subst, ◌∙◌, arith, filter}
use Rattle.ulfm_rank.proofs.Common.{is_member, rounds_of, Entrance, Entered, state_of, Knows, AllGrow, deciders, State, RankView, announced}
use Rattle.ulfm_rank.proofs.Following.{follows_entered}
use Rattle.ulfm_log.proofs.Held.{marks-grown}
use Rattle.ulfm_rank.proofs.Known.{knows_gone}
use Rattle.ulfm_rank.proofs.Whole.{holds_same}
use Rattle.ulfm_log.specs.Decisive.{is_next, rounds_on, tells}
use Rattle.ulfm_rank.proofs.Seen.{stop_places_few, state_logged}
use Rattle.ulfm_rank.proofs.rank.Rank.enter.Goals as goal
use Rattle.ulfm_rank.proofs.rank.Rank.enter.Goals.{After-push_reserved}

seen : (c : After-push_reserved) → state_of c.self.inside ≡ c.args.self.now.state
seen c = ap (λ (v : RankView). v.state) c.self.view_is

abbrev entrance : After-push_reserved → Entrance
entrance c = record { topic = c.args.topic; contribution = record { known = c.known-known.result; flag = c.args.flag }; fits = c.entrance-1.given.0; has_shrink = c.entrance-1.given.1.0 }

longer : (c : After-push_reserved) → c.push_reserved.new.self.items ≡ c.self.inside.log.items ++ Entered (entrance c) ∷ []
longer c = c.push_reserved.ensures.items ∙ ap (λ l. l ++ Entered (entrance c) ∷ []) c.reserve.ensures.items

knows : (c : After-push_reserved) → Knows c.self.inside.log.items c.known-known.result
knows c = λ r. c.known-known.ensures r ∙ knows_gone c.self.invariant.follows.faults r

grows : (c : After-push_reserved) → AllGrow c.self.inside.outboxes.boxes c.announce.new.outboxes.boxes (announced c.self.inside.ranks c.self.inside.me.number c.self.inside.log.items (entrance c))
grows c =
    let a = c.self.inside in
    rw c.in_ok-reserve-2.ensures.boxes at
    (c.announce.ensures a.ranks a.log.items (knows c) (λ r. c.requires.members r ∙ ap (λ (s : State). is_member (deciders s.ranks s.log c.args.topic) r) (sym (seen c))))

pub enter-requires : goal.enter-requires
enter-requires c = λ agrees. omega (arith, counts_few c.self.invariant.tells agrees c.args.topic.context.number, c.self.invariant.places, c.self.invariant.countable)

pub invariant_of-self-2 : goal.invariant_of-self-2
invariant_of-self-2 c =
    let a = c.self.inside in
    record {
      follows = rw (longer c) (follows_entered c.self.invariant.follows (entrance c) c.announce.new.outboxes.boxes (grows c));
      places = omega (arith, c.in_ok-reserve.ensures.ok, c.push_reserved.ensures.len, c.push_reserved.ensures.capacity, c.len.ensures.len, stop_places_few a.stopped);
      tells = told_entered _ _ _ _ (entrance c) (longer c) c.self.invariant.tells (ap (λ (s : State). is_next (rounds_of s.log) c.args.topic) (seen c) ∙ c.requires.next) c.in_ok-enter.ensures.counts
          (c.tell.ensures.items ∙ ap (λ e. c.forget.new.told.items ++ e ∷ []) c.entered.ensures ∙ ap (λ l. l ++ Entered (entrance c) ∷ []) (c.forget.ensures.items ∙ ap (filter (tells (rounds_on c.enter.new.self))) c.make_place.ensures.items));
      countable = omega (arith, c.push_reserved.ensures.capacity, c.reserve.ensures.countable);
    }

pub returns-clause-enters : goal.returns-clause-enters
returns-clause-enters c =
    let a = c.self.inside in
    record {
      entrance = entrance c;
      about = refl;
      knows = subst (λ (s : State). Knows s.log c.known-known.result) (seen c) (knows c);
      brings = refl;
      only = state_logged a.outboxes.boxes c.announce.new.outboxes.boxes (Entered (entrance c)) (seen c) (longer c) (marks-grown (grows c)) (c.push_reserved.ensures.keeps ∙ c.reserve.ensures.keeps);
    }

pub invariant_of-self-in_err-enter : goal.invariant_of-self-in_err-enter
invariant_of-self-in_err-enter c = holds_same c.self.inside c.self.invariant refl refl refl refl refl refl refl refl refl refl c.in_ok-reserve-2.ensures.boxes c.reserve.ensures.items c.make_place.ensures.items c.in_err-enter.ensures.unchanged_at_error c.reserve.ensures.capacity c.reserve.ensures.countable
