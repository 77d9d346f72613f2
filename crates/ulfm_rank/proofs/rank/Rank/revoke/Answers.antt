use Rattle.ulfm_log.proofs.Sifted.{quiet, silent}
use Rattle.std.proofs.Common.{◌≡◌, ◌++◌, ◌∷◌, [], false, refl, ap, sym, ◌∙◌, arith, nat_eq}
use Rattle.ulfm_rank.proofs.Common.{Revoked, is_revoked, State, RankView, Follows, Knows, AllGrow, passed_on, get}
use Rattle.ulfm_log.proofs.Held.{marks-grown}
use Rattle.ulfm_rank.proofs.Following.{follows_revoked}
use Rattle.ulfm_rank.proofs.Seen.{stop_places_few, state_logged}
use Rattle.ulfm_rank.proofs.Known.{knows_gone}
use Rattle.ulfm_rank.proofs.Whole.{comms_itself, follows_facts, follows_same, holds_roomy, holds_same}
use Rattle.ulfm_rank.proofs.rank.Rank.revoke.Goals as goal
use Rattle.ulfm_log.proofs.Counts.{rounds_itself}
use Rattle.ulfm_rank.proofs.rank.Rank.revoke.Goals.{After-push_reserved}

pub invariant_of-self-in_err-prepare : goal.invariant_of-self-in_err-prepare
invariant_of-self-in_err-prepare c = holds_same c.self.inside c.self.invariant refl refl refl refl refl c.prepare.ensures.waiting c.prepare.ensures.kept c.prepare.ensures.count c.prepare.ensures.cleared refl c.in_ok-reserve-2.ensures.boxes c.reserve.ensures.items refl refl c.reserve.ensures.capacity c.reserve.ensures.countable

pub invariant_of-self-in_err-make_place : goal.invariant_of-self-in_err-make_place
invariant_of-self-in_err-make_place c = holds_roomy c.self.inside c.self.invariant refl refl refl c.make_place.ensures.knows_the_same (comms_itself refl) c.prepare.ensures.waiting c.prepare.ensures.kept c.prepare.ensures.count c.prepare.ensures.cleared refl c.in_ok-reserve-2.ensures.boxes c.reserve.ensures.items refl (rounds_itself refl) c.reserve.ensures.capacity c.reserve.ensures.countable

-- the parts follow the log once there is room
ready : (c : After-push_reserved) → Follows c.self.inside.ranks c.self.inside.me.number c.self.inside.log.items c.self.inside.stopped c.prepare.new.self (get nat_eq c.self.inside.requests) c.make_place.new.self c.self.inside.communicators c.self.inside.outboxes.boxes
ready c =
    let a = c.self.inside in
    follows_facts c.make_place.new.self c.make_place.ensures.knows_the_same
    (follows_same c.self.invariant.follows c.prepare.new.self (get nat_eq a.requests) a.outboxes.boxes c.prepare.ensures.waiting c.prepare.ensures.kept c.prepare.ensures.count c.prepare.ensures.cleared (λ k. refl) refl)

longer : (c : After-push_reserved) → c.push_reserved.new.self.items ≡ c.self.inside.log.items ++ Revoked c.args.comm.context ∷ []
longer c = c.push_reserved.ensures.items ∙ ap (λ l. l ++ Revoked c.args.comm.context ∷ []) c.reserve.ensures.items

first : (c : After-push_reserved) → is_revoked c.self.inside.log.items c.args.comm.context.number ≡ false
first c = sym (c.self.invariant.follows.faults.marks c.args.comm.context.number) ∙ sym c.is_revoked.ensures ∙ c.if-is_revoked.false

knows : (c : After-push_reserved) → Knows c.self.inside.log.items c.known-known.result
knows c = λ r. c.known-known.ensures r ∙ knows_gone (ready c).faults r

grows : (c : After-push_reserved) → AllGrow c.self.inside.outboxes.boxes c.forward.new.outboxes.boxes (passed_on c.self.inside.me.number c.self.inside.log.items c.args.comm.context)
grows c = rw c.in_ok-reserve-2.ensures.boxes at (c.forward.ensures c.self.inside.log.items (knows c) (first c))

pub invariant_of-self-2 : goal.invariant_of-self-2
invariant_of-self-2 c = record {
  follows = rw (longer c) (follows_revoked (ready c) c.args.comm.context c.clear.new.matcher (get nat_eq c.clear.new.requests) c.revoke.new.self c.forward.new.outboxes.boxes (first c) c.clear.ensures.tracks c.revoke.ensures.marks_this_context_alone c.revoke.ensures.known_stay c.revoke.ensures.totals_stay (grows c));
  places = omega (arith, c.in_ok-reserve.ensures.ok, c.push_reserved.ensures.len, c.push_reserved.ensures.capacity, c.len.ensures.len, c.clear.ensures.len, stop_places_few c.self.inside.stopped);
  tells = quiet _ _ _ _ (longer c) c.self.invariant.tells silent;
  countable = omega (arith, c.push_reserved.ensures.capacity, c.reserve.ensures.countable);
}

pub returns-clause-state : goal.returns-clause-state
returns-clause-state c =
    let a = c.self.inside in
    let seen = ap (λ (v : RankView). v.state) c.self.view_is in
    let first' : is_revoked c.args.self.now.state.log c.args.comm.context.number ≡ false = ap (λ (s : State). is_revoked s.log c.args.comm.context.number) (sym seen) ∙ first c in
    rw first' (state_logged a.outboxes.boxes c.forward.new.outboxes.boxes (Revoked c.args.comm.context) seen (longer c) (marks-grown (grows c)) (c.push_reserved.ensures.keeps ∙ c.reserve.ensures.keeps))
