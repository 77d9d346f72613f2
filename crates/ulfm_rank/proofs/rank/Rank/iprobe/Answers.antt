use Rattle.std.proofs.Common.{◌≡◌, ℕ, false, true, ap, sym, subst, refl, ◌∙◌, Option, Some, nat_eq, inr, cond, eqb}
use Rattle.ulfm_rank.proofs.Common.{Context, MessageId, Probed, Found, Request, TellsOf, WouldGet, is_revoked, group_at, members_of, or_empty, find_group, IsOfGroup, RankView, State, eq-eqb, get}
use Rattle.ulfm_rank.proofs.InStep.{in_step_open}
use Rattle.ulfm_log.proofs.Made.{found_group}
use Rattle.ulfm_rank.proofs.Probing.{finds_none, gets, unrevoked}
use Rattle.ulfm_rank.proofs.Found.{in_step_probed}
use Rattle.ulfm_rank.proofs.Requested.{sender_found}
use Rattle.ulfm_rank.proofs.Whole.{follows_requests}
use Rattle.ulfm_rank.proofs.rank.Rank.iprobe.Goals as goal

pub earliest-requires : goal.earliest-requires
earliest-requires c =
    let k = c.in_ok-pattern.ensures in
    let p = c.in_ok-pattern.pattern in
    let fresh = unrevoked c.args.self.now.state c.args.comm c.args.source c.args.tag 1024 p k.accepted k.asks_for in
    record { «open» = in_step_open c.self.invariant.follows.in_step p.context.number (ap (λ (v : RankView). is_revoked v.state.log p.context.number) c.self.view_is ∙ fresh) }

pub status_in-status-requires-clause-sender : goal.status_in-status-requires-clause-sender
status_in-status-requires-clause-sender c =
    let a = c.self.inside in
    let p = c.in_ok-pattern.pattern in
    let held = c.self.invariant.follows in
    let of_group : IsOfGroup a.ranks a.log.items p = subst (λ (v : RankView). IsOfGroup v.state.ranks v.state.log p) (sym c.self.view_is) c.in_ok-pattern.ensures.of_group in
    let taken = c.in-Some.ensures in
    let id : MessageId = record { number = a.matcher.count } in
    let message : Request = record { pattern = p; fate = Found c.in-Some.letter.now } in
    let find' : ℕ → Option Request = λ k. cond (eqb a.matcher.count k) (Some message) (get nat_eq a.requests k) in
    let done = follows_requests held (Probed id p) refl (in_step_probed held.in_step id refl p of_group c.in-Some.letter.now taken.0 taken.1 find' (λ k. refl)) in
    sender_found done a.matcher.count message (ap (λ b. cond b (Some message) (get nat_eq a.requests a.matcher.count)) (eq-eqb a.matcher.count a.matcher.count refl))

pub returns-in-Some-clause-answer : goal.returns-in-Some-clause-answer
returns-in-Some-clause-answer c =
    let a = c.self.inside in
    let p = c.in_ok-pattern.pattern in
    let seen = ap (λ (v : RankView). v.state) c.self.view_is in
    let receive = c.in_ok-pattern.ensures.asks_for in
    let letter = c.in-Some.letter.now in
    let members : or_empty (find_group p.context.number a.communicators.made) ≡ group_at c.args.self.now.state c.args.comm.context.number =
    ap or_empty (found_group p.context.number c.self.invariant.follows.communicators) ∙ ap (λ (d : Context). members_of a.ranks a.log.items d.number) receive.context ∙ ap (λ (s : State). group_at s c.args.comm.context.number) seen in
    record {
      pattern = p;
      receive = receive;
      letter = letter;
      gets = subst (λ (s : State). WouldGet s.log p letter) seen (gets c.self.invariant.follows.in_step p letter c.in-Some.ensures.0 c.in-Some.ensures.1);
      told = subst (λ g. TellsOf g letter c.status_in-status.result) members c.status_in-status.ensures;
    }

pub returns-then-names_known-clause-refused : goal.returns-then-names_known-clause-refused
returns-then-names_known-clause-refused c =
    let k = c.in_ok-pattern.ensures in
    inr (k.accepted, refl, finds_none c.self.invariant.follows c.args.self.now.state (ap (λ (v : RankView). v.state.log) c.self.view_is) c.args.comm c.args.source c.args.tag c.in_ok-pattern.pattern k.accepted k.asks_for c.in-None.ensures true (sym c.names_known.ensures ∙ c.if-names_known.true))

pub returns-else-names_known-clause-answer : goal.returns-else-names_known-clause-answer
returns-else-names_known-clause-answer c =
    let k = c.in_ok-pattern.ensures in
    finds_none c.self.invariant.follows c.args.self.now.state (ap (λ (v : RankView). v.state.log) c.self.view_is) c.args.comm c.args.source c.args.tag c.in_ok-pattern.pattern k.accepted k.asks_for c.in-None.ensures false (sym c.names_known.ensures ∙ c.if-names_known.false)
