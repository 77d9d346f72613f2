use Rattle.ulfm_log.proofs.Sifted.{quiet, silent}
use Rattle.std.proofs.Common.{◌≡◌, ℕ, false, true, [], ◌∷◌, ◌++◌, length, ap, sym, subst, arith, refl, ◌∙◌, Option, Some, nat_eq, inr, cond, eqb, Contains}
use Rattle.std.proofs.lemmas.Result.{err_from_is_err_and}
use Rattle.ulfm_base.specs.Pattern.{Admits}
use Rattle.ulfm_rank.proofs.Common.{Context, Letter, Pattern, MessageId, Probed, Found, Request, IsMessage, TellsOf, WouldGet, is_revoked, group_at, members_of, or_empty, find_group, Follows, IsOfGroup, RankView, State, eq-eqb, lookup, get, index_map_len, false≢true, history_of, count_before}
use Rattle.ulfm_rank.proofs.InStep.{count_small, in_step_open}
use Rattle.ulfm_log.proofs.Made.{found_group}
use Rattle.ulfm_rank.proofs.Probing.{finds_none, never_none, gets, may_starve, unrevoked}
use Rattle.ulfm_rank.proofs.Found.{in_step_probed, found_message}
use Rattle.ulfm_rank.proofs.Requested.{sender_found}
use Rattle.ulfm_rank.proofs.Whole.{follows_same, follows_requests, holds_same}
use Rattle.ulfm_rank.proofs.Seen.{state_logged, stop_places_few}
use Rattle.ulfm_rank.proofs.rank.Rank.improbe.Goals as goal
use Rattle.ulfm_rank.proofs.rank.Rank.improbe.Goals.{After-push_reserved}

pub returns-then-names_known-clause-refused : goal.returns-then-names_known-clause-refused
returns-then-names_known-clause-refused c =
    let k = c.in_ok-pattern.ensures in
    let none : (y : ℕ × Letter) → Contains c.self.inside.matcher.kept y → Admits c.in_ok-pattern.pattern y.1.envelope → ⊥ = λ y there fits. false≢true (sym c.if-not-keeps_match.true ∙ c.keeps_match.ensures.1 (y, there, fits)) in
    inr (k.accepted, finds_none c.self.invariant.follows c.args.self.now.state (ap (λ (v : RankView). v.state.log) c.self.view_is) c.args.comm c.args.source c.args.tag c.in_ok-pattern.pattern k.accepted k.asks_for none true (sym c.names_known.ensures ∙ c.if-names_known.true))

pub returns-then-not-keeps_match-clause-answer : goal.returns-then-not-keeps_match-clause-answer
returns-then-not-keeps_match-clause-answer c =
    let k = c.in_ok-pattern.ensures in
    let none : (y : ℕ × Letter) → Contains c.self.inside.matcher.kept y → Admits c.in_ok-pattern.pattern y.1.envelope → ⊥ = λ y there fits. false≢true (sym c.if-not-keeps_match.true ∙ c.keeps_match.ensures.1 (y, there, fits)) in
    (finds_none c.self.invariant.follows c.args.self.now.state (ap (λ (v : RankView). v.state.log) c.self.view_is) c.args.comm c.args.source c.args.tag c.in_ok-pattern.pattern k.accepted k.asks_for none false (sym c.names_known.ensures ∙ c.if-names_known.false), refl)

pub returns-in_err-reserve-clause-refused : goal.returns-in_err-reserve-clause-refused
returns-in_err-reserve-clause-refused c =
    let k = c.in_ok-pattern.ensures in
    let there = c.keeps_match.ensures.0 c.if-not-keeps_match.false in
    let e = err_from_is_err_and c.from_residual-in_err-reserve.result c.from_residual-in_err-reserve.ensures.1 in
    rw (e.1, e.2) (inr (k.accepted, may_starve c.self.invariant.follows c.args.self.now.state (ap (λ (v : RankView). v.state.log) c.self.view_is) c.args.comm c.args.source c.args.tag c.in_ok-pattern.pattern k.accepted k.asks_for there.0 there.1 there.2))

pub invariant_of-self-in_err-reserve-2 : goal.invariant_of-self-in_err-reserve-2
invariant_of-self-in_err-reserve-2 c = holds_same c.self.inside c.self.invariant refl refl refl refl refl refl refl refl refl c.reserve-2.ensures.entries refl c.reserve.ensures.items refl refl c.reserve.ensures.capacity c.reserve.ensures.countable

pub returns-in_err-reserve-2-clause-refused : goal.returns-in_err-reserve-2-clause-refused
returns-in_err-reserve-2-clause-refused c =
    let k = c.in_ok-pattern.ensures in
    let there = c.keeps_match.ensures.0 c.if-not-keeps_match.false in
    let e = err_from_is_err_and c.from_residual-in_err-reserve-2.result c.from_residual-in_err-reserve-2.ensures.1 in
    rw (e.1, e.2) (inr (k.accepted, may_starve c.self.invariant.follows c.args.self.now.state (ap (λ (v : RankView). v.state.log) c.self.view_is) c.args.comm c.args.source c.args.tag c.in_ok-pattern.pattern k.accepted k.asks_for there.0 there.1 there.2))

pub probe-requires-clause-countable : goal.probe-requires-clause-countable
probe-requires-clause-countable c =
    let a = c.self.inside in
    omega (arith, count_small c.self.invariant.follows.in_step, c.self.invariant.places, c.self.invariant.countable)

pub probe-requires-clause-open : goal.probe-requires-clause-open
probe-requires-clause-open c =
    let k = c.in_ok-pattern.ensures in
    let p = c.in_ok-pattern.pattern in
    let fresh = unrevoked c.args.self.now.state c.args.comm c.args.source c.args.tag 1024 p k.accepted k.asks_for in
    in_step_open c.self.invariant.follows.in_step p.context.number (ap (λ (v : RankView). is_revoked v.state.log p.context.number) c.self.view_is ∙ fresh)

pub unreachable-requires : goal.unreachable-requires
unreachable-requires c =
    let there = c.keeps_match.ensures.0 c.if-not-keeps_match.false in
    never_none c.self.invariant.follows.in_step c.in_ok-pattern.pattern there.0 there.1 there.2 c.probe.new.self c.in-None.ensures.tracks

pub status_in-status-requires-clause-sender : goal.status_in-status-requires-clause-sender
status_in-status-requires-clause-sender c =
    let a = c.self.inside in
    let p = c.in_ok-pattern.pattern in
    let held = c.self.invariant.follows in
    let of_group : IsOfGroup a.ranks a.log.items p = subst (λ (v : RankView). IsOfGroup v.state.ranks v.state.log p) (sym c.self.view_is) c.in_ok-pattern.ensures.of_group in
    let id : MessageId = record { number = c.count.result } in
    let message : Request = record { pattern = p; fate = Found c.in-Some.letter } in
    let find' : ℕ → Option Request = λ k. cond (eqb c.count.result k) (Some message) (get nat_eq a.requests k) in
    let done = follows_requests held (Probed id p) refl (in_step_probed held.in_step id c.count.ensures p of_group c.in-Some.letter c.probe.new.self c.in-Some.ensures.tracks find' (λ k. refl)) in
    sender_found done c.count.result message (ap (λ b. cond b (Some message) (get nat_eq a.requests c.count.result)) (eq-eqb c.count.result c.count.result refl))

module _ (c : After-push_reserved) where
  abbrev pattern : Pattern
  pattern = c.in_ok-pattern.pattern

  abbrev id : MessageId
  id = record { number = c.count.result }

  ready : Follows c.self.inside.ranks c.self.inside.me.number c.self.inside.log.items c.self.inside.stopped c.self.inside.matcher (get nat_eq c.reserve-2.new.self) c.self.inside.faults c.self.inside.communicators c.self.inside.outboxes.boxes
  ready = follows_same c.self.invariant.follows c.self.inside.matcher (get nat_eq c.reserve-2.new.self) c.self.inside.outboxes.boxes refl refl refl refl (λ k. ap (lookup (nat_eq k)) c.reserve-2.ensures.entries) refl

  longer : c.push_reserved.new.self.items ≡ c.self.inside.log.items ++ Probed id pattern ∷ []
  longer = c.push_reserved.ensures.items ∙ ap (λ log. log ++ Probed id pattern ∷ []) c.reserve.ensures.items

  done : Follows c.self.inside.ranks c.self.inside.me.number (c.self.inside.log.items ++ Probed id pattern ∷ []) c.self.inside.stopped c.probe.new.self (get nat_eq c.put.new.requests) c.self.inside.faults c.self.inside.communicators c.self.inside.outboxes.boxes
  done =
      let a = c.self.inside in
      let of_group : IsOfGroup a.ranks a.log.items pattern = subst (λ (v : RankView). IsOfGroup v.state.ranks v.state.log pattern) (sym c.self.view_is) c.in_ok-pattern.ensures.of_group in
      follows_requests ready (Probed id pattern) refl (in_step_probed ready.in_step id c.count.ensures pattern of_group c.in-Some.letter c.probe.new.self c.in-Some.ensures.tracks (get nat_eq c.put.new.requests) c.put.ensures.adds)

pub invariant_of-self-2 : goal.invariant_of-self-2
invariant_of-self-2 c =
    let a = c.self.inside in
    record {
      follows = subst (λ log. Follows a.ranks a.me.number log a.stopped c.probe.new.self (get nat_eq c.put.new.requests) a.faults a.communicators a.outboxes.boxes) (sym (longer c)) (done c);
      places =
          let same : index_map_len c.reserve-2.new.self ≡ index_map_len a.requests = ap length c.reserve-2.ensures.entries in
          let stop = stop_places_few a.stopped in
          omega (arith, c.in_ok-reserve.ensures.ok, c.push_reserved.ensures.len, c.push_reserved.ensures.capacity, c.put.ensures.len, stop, c.len-places.ensures.len, same, c.reserve.ensures.len);
      tells = quiet _ _ _ _ (longer c) c.self.invariant.tells silent;
      countable = omega (arith, c.push_reserved.ensures.capacity, c.reserve.ensures.countable);
    }

pub returns-clause-answer : goal.returns-clause-answer
returns-clause-answer c =
    let a = c.self.inside in
    let p = pattern c in
    let seen = ap (λ (v : RankView). v.state) c.self.view_is in
    let receive = c.in_ok-pattern.ensures.asks_for in
    let members : or_empty (find_group p.context.number a.communicators.made) ≡ group_at c.args.self.now.state c.args.comm.context.number =
    ap or_empty (found_group p.context.number c.self.invariant.follows.communicators) ∙ ap (λ (d : Context). members_of a.ranks a.log.items d.number) receive.context ∙ ap (λ (s : State). group_at s c.args.comm.context.number) seen in
    record {
      pattern = p;
      receive = receive;
      letter = c.in-Some.letter;
      gets = subst (λ (s : State). WouldGet s.log p c.in-Some.letter) seen (gets c.self.invariant.follows.in_step p c.in-Some.letter c.probe.new.self c.in-Some.ensures.tracks);
      numbered = c.count.ensures ∙ c.self.invariant.follows.in_step.tracks.remains.count ∙ ap (λ (s : State). count_before (history_of s.log) (length (history_of s.log))) seen;
      told = subst (λ g. TellsOf g c.in-Some.letter c.status_in-status.result) members c.status_in-status.ensures;
      only = state_logged a.outboxes.boxes a.outboxes.boxes (Probed (id c) p) seen (longer c) refl (c.push_reserved.ensures.keeps ∙ c.reserve.ensures.keeps);
    }

pub returns-clause-message : goal.returns-clause-message
returns-clause-message c =
    let made = found_message (ready c).in_step (id c) c.count.ensures (pattern c) in
    (made.0, pattern c, subst (λ log. IsMessage log c.count.result made.0 (pattern c)) (sym (longer c)) made.1)
