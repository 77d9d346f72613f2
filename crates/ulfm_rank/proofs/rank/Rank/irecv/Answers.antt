use Rattle.ulfm_log.proofs.Sifted.{quiet, silent}
use Rattle.std.proofs.Common.{◌≡◌, false, [], ◌∷◌, ◌++◌, length, ap, sym, subst, arith, refl, ◌∙◌, nat_eq}
use Rattle.ulfm_rank.proofs.Common.{Context, Pattern, Posted, Request, IsRequest, is_revoked, Follows, state_of, IsOfGroup, RankView, Adds, lookup, get, index_map_len, IsReceive}
use Rattle.ulfm_rank.specs.Checks.{receive_checks, Passes}
use Rattle.ulfm_rank.proofs.InStep.{count_small, in_step_open, posted_request}
use Rattle.ulfm_rank.proofs.Refusals.{all_pass}
use Rattle.ulfm_rank.proofs.Whole.{follows_same, follows_posted, holds_same}
use Rattle.ulfm_rank.proofs.Seen.{state_logged, stop_places_few}
use Rattle.ulfm_rank.proofs.rank.Rank.irecv.Goals as goal
use Rattle.ulfm_rank.proofs.rank.Rank.irecv.Goals.{After-push_reserved}

pub invariant_of-self-in_err-reserve-2 : goal.invariant_of-self-in_err-reserve-2
invariant_of-self-in_err-reserve-2 c = holds_same c.self.inside c.self.invariant refl refl refl refl refl refl refl refl refl c.reserve-2.ensures.entries refl c.reserve.ensures.items refl refl c.reserve.ensures.capacity c.reserve.ensures.countable

pub invariant_of-self-in_err-prepare : goal.invariant_of-self-in_err-prepare
invariant_of-self-in_err-prepare c = holds_same c.self.inside c.self.invariant refl refl refl refl refl c.prepare.ensures.waiting c.prepare.ensures.kept c.prepare.ensures.count c.prepare.ensures.cleared c.reserve-2.ensures.entries refl c.reserve.ensures.items refl refl c.reserve.ensures.capacity c.reserve.ensures.countable

pub admit-fate-requires-clause-countable : goal.admit-fate-requires-clause-countable
admit-fate-requires-clause-countable c =
    let a = c.self.inside in
    let small = count_small c.self.invariant.follows.in_step in
    omega (arith, small, c.prepare.ensures.count, c.self.invariant.places, c.self.invariant.countable)

pub admit-fate-requires-clause-open : goal.admit-fate-requires-clause-open
admit-fate-requires-clause-open c =
    let a = c.self.inside in
    let s = state_of a in
    let x = c.args.comm.context.number in
    let passes : Passes (receive_checks s x c.args.source) = subst (λ (v : RankView). Passes (receive_checks v.state x c.args.source)) (sym c.self.view_is) c.in_ok-pattern.ensures.accepted in
    let fresh : is_revoked a.log.items c.in_ok-pattern.pattern.context.number ≡ false = ap (λ (d : Context). is_revoked a.log.items d.number) c.in_ok-pattern.ensures.asks_for.context ∙ (all_pass (receive_checks s x c.args.source) passes).1.1.0 in
    rw c.prepare.ensures.cleared (in_step_open c.self.invariant.follows.in_step c.in_ok-pattern.pattern.context.number fresh)

module _ (c : After-push_reserved) where
  abbrev pattern : Pattern
  pattern = c.in_ok-pattern.pattern

  abbrev request : Request
  request = record { pattern = pattern; fate = c.admit-fate.result.1 }

  ready : Follows c.self.inside.ranks c.self.inside.me.number c.self.inside.log.items c.self.inside.stopped c.prepare.new.self (get nat_eq c.reserve-2.new.self) c.self.inside.faults c.self.inside.communicators c.self.inside.outboxes.boxes
  ready =
      let a = c.self.inside in
      follows_same c.self.invariant.follows
      c.prepare.new.self (get nat_eq c.reserve-2.new.self) a.outboxes.boxes c.prepare.ensures.waiting c.prepare.ensures.kept c.prepare.ensures.count c.prepare.ensures.cleared (λ k. ap (lookup (nat_eq k)) c.reserve-2.ensures.entries) refl

  receive : IsReceive c.args.self.now.state c.args.comm c.args.source c.args.tag c.args.room pattern
  receive = c.in_ok-pattern.ensures.asks_for

  adds : Adds c.prepare.new.self.count request (get nat_eq c.reserve-2.new.self) (get nat_eq c.put.new.requests)
  adds = subst (λ k. Adds k request (get nat_eq c.reserve-2.new.self) (get nat_eq c.put.new.requests)) c.admit-fate.ensures.number c.put.ensures.adds

  longer : c.push_reserved.new.self.items ≡ c.self.inside.log.items ++ Posted pattern ∷ []
  longer = c.push_reserved.ensures.items ∙ ap (λ log. log ++ Posted pattern ∷ []) c.reserve.ensures.items

  done : Follows c.self.inside.ranks c.self.inside.me.number (c.self.inside.log.items ++ Posted pattern ∷ []) c.self.inside.stopped c.admit-fate.new.matcher (get nat_eq c.put.new.requests) c.self.inside.faults c.self.inside.communicators c.self.inside.outboxes.boxes
  done =
      let a = c.self.inside in
      let of_group : IsOfGroup a.ranks a.log.items pattern = subst (λ (v : RankView). IsOfGroup v.state.ranks v.state.log pattern) (sym c.self.view_is) c.in_ok-pattern.ensures.of_group in
      follows_posted ready pattern of_group c.admit-fate.result.1 c.admit-fate.new.matcher (get nat_eq c.put.new.requests)
      (rw (sym c.names_known-gone.ensures) c.admit-fate.ensures.tracks) adds

pub invariant_of-self-2 : goal.invariant_of-self-2
invariant_of-self-2 c =
    let a = c.self.inside in
    record {
      follows = subst (λ log. Follows a.ranks a.me.number log a.stopped c.admit-fate.new.matcher (get nat_eq c.put.new.requests) a.faults a.communicators a.outboxes.boxes) (sym (longer c)) (done c);
      places =
          let same : index_map_len c.reserve-2.new.self ≡ index_map_len a.requests = ap length c.reserve-2.ensures.entries in
          let stop = stop_places_few a.stopped in
          omega (arith, c.in_ok-reserve.ensures.ok, c.push_reserved.ensures.len, c.push_reserved.ensures.capacity, c.put.ensures.len, stop, c.len-places.ensures.len, same, c.reserve.ensures.len);
      tells = quiet _ _ _ _ (longer c) c.self.invariant.tells silent;
      countable = omega (arith, c.push_reserved.ensures.capacity, c.reserve.ensures.countable);
    }

pub returns-clause-posts : goal.returns-clause-posts
returns-clause-posts c =
    let a = c.self.inside in
    record {
      pattern = pattern c;
      receive = receive c;
      only = state_logged a.outboxes.boxes a.outboxes.boxes (Posted (pattern c)) (ap (λ (v : RankView). v.state) c.self.view_is) (longer c) refl (c.push_reserved.ensures.keeps ∙ c.reserve.ensures.keeps);
    }

pub returns-clause-request : goal.returns-clause-request
returns-clause-request c =
    let posted = posted_request (ready c).in_step (pattern c) in (
      posted.0,
      pattern c,
      subst (λ log. IsRequest log c.admit-fate.result.0.number posted.0 (pattern c)) (sym (longer c))
          (subst (λ k. IsRequest (c.self.inside.log.items ++ Posted (pattern c) ∷ []) k posted.0 (pattern c)) (sym c.admit-fate.ensures.number) posted.1),
    )
