use Rattle.ulfm_log.proofs.Sifted.{told_more}
use Rattle.std.proofs.Common.{◌≡◌, ◌+◌, [], ◌∷◌, ◌++◌, refl, ap, sym, subst, arith, ◌∙◌, nat_eq, IsTrue, length, nat_lt, ◌&&◌, vec_len, vec_capacity}
use Rattle.ulfm_rank.proofs.Common.{Took, AllGrow, RankView, owed_by_item, get, index_map_len, stop_places, revoked_before}
use Rattle.ulfm_log.proofs.Held.{marks-grown}
use Rattle.ulfm_rank.proofs.InStep.{count_small, in_step_open}
use Rattle.ulfm_rank.proofs.Known.{marked_before, knows_gone}
use Rattle.ulfm_rank.proofs.Whole.{follows_took}
use Rattle.ulfm_rank.proofs.Rooms.{room_of, facts_room_of}
use Rattle.ulfm_rank.proofs.Seen.{state_logged}
use Rattle.ulfm_rank.proofs.rank.Rank.take.Goals as goal
use Rattle.ulfm_rank.proofs.rank.Rank.take.Goals.{After-push_reserved}

pub learn-requires : goal.learn-requires
learn-requires c =
    let a = c.self.inside in
    facts_room_of a.matcher.prepared (nat_lt (length a.log.items + (index_map_len a.requests + stop_places a.stopped) + 1) a.log.capacity) a.outboxes.room (nat_lt (vec_len a.told) (vec_capacity a.told)) a.block a.faults.room (a.rounds.room && a.communicators.room)
    (subst (λ (v : RankView). IsTrue v.prepared) (sym c.self.view_is) c.requires.prepared)

pub settle-requires-clause-countable : goal.settle-requires-clause-countable
settle-requires-clause-countable c =
    let a = c.self.inside in
    let small = count_small c.self.invariant.follows.in_step in
    omega (arith, small, c.self.invariant.places, c.self.invariant.countable)

pub settle-requires-clause-open : goal.settle-requires-clause-open
settle-requires-clause-open c l is revoked =
    let a = c.self.inside in
    in_step_open c.self.invariant.follows.in_step l.envelope.context.number
    (ap (revoked_before a.log.items) (sym is) ∙ (sym (marked_before c.self.invariant.follows.faults c.args.item) ∙ (sym c.was_revoked-revoked.ensures ∙ revoked)))

grows : (c : After-push_reserved) → AllGrow c.self.inside.outboxes.boxes c.pass_on.new.outboxes.boxes (λ d. owed_by_item c.self.inside.me.number c.self.inside.log.items d c.args.item)
grows c =
    let a = c.self.inside in
    let faults = c.self.invariant.follows.faults in
    c.pass_on.ensures a.log.items (λ r. c.known.ensures r ∙ knows_gone faults r) (c.was_revoked-revoked.ensures ∙ marked_before faults c.args.item)

longer : (c : After-push_reserved) → c.push_reserved.new.self.items ≡ c.self.inside.log.items ++ Took c.args.source c.args.item ∷ []
longer c = c.push_reserved.ensures.items ∙ ap (λ x. c.self.inside.log.items ++ Took c.args.source x ∷ []) c.of-noted.ensures

pub invariant_of-self : goal.invariant_of-self
invariant_of-self c =
    let a = c.self.inside in
    let room = room_of a.matcher.prepared (length a.log.items + (index_map_len a.requests + stop_places a.stopped)) a.log.capacity (a.outboxes.room && (nat_lt (vec_len a.told) (vec_capacity a.told) && (a.block && (a.faults.room && (a.rounds.room && a.communicators.room))))) (subst (λ (v : RankView). IsTrue v.prepared) (sym c.self.view_is) c.requires.prepared) in
    let tracks = rw c.was_revoked-revoked.ensures at c.settle.ensures.tracks in
    record {
      follows = rw (longer c)
          (follows_took c.self.invariant.follows c.args.source c.args.item c.settle.new.matcher (get nat_eq c.settle.new.requests) c.learn.new.faults c.pass_on.new.outboxes.boxes tracks (c.learn.ensures a.log.items c.self.invariant.follows.faults) (grows c));
      places = omega (arith, room, c.settle.ensures.len, c.push_reserved.ensures.len, c.push_reserved.ensures.capacity);
      tells = told_more _ _ _ _ _ (longer c) c.self.invariant.tells (λ k c. refl) c.hear.ensures.items;
      countable = omega (arith, c.push_reserved.ensures.capacity, c.self.invariant.countable);
    }

pub returns : goal.returns
returns c =
    let a = c.self.inside in
    state_logged c.self.inside.outboxes.boxes c.pass_on.new.outboxes.boxes (Took c.args.source c.args.item) (ap (λ (v : RankView). v.state) c.self.view_is) (longer c) (marks-grown (grows c)) c.push_reserved.ensures.keeps
