use Rattle.ulfm_log.proofs.Sifted.{quiet, silent}
use Rattle.std.proofs.Common.{◌≡◌, ℕ, [], ◌∷◌, ◌++◌, refl, ap, sym, subst, arith, ◌∙◌, false, nat_eq, Some}
use Rattle.ulfm_rank.proofs.Common.{Pattern, Request, RankView, Received, IsMessage, IsMessageAnswer, IsNoMessage, is_some, is_stopped, get, index_map_len}
use Rattle.ulfm_rank.proofs.Answered.{is_message, no_message}
use Rattle.ulfm_rank.proofs.Requested.{has_group, sender_found, answered_message}
use Rattle.ulfm_rank.proofs.Whole.{follows_released, one_less}
use Rattle.ulfm_rank.proofs.rank.Rank.mrecv.Goals as goal

pub returns-in-None-clause-refused : goal.returns-in-None-clause-refused
returns-in-None-clause-refused c =
    subst (λ (v : RankView). (is_stopped v.state.log ≡ false) × IsNoMessage v.state.log c.args.id.number) c.self.view_is
    (sym c.self.invariant.follows.halted ∙ c.if-self.false, no_message c.self.invariant.follows.in_step c.args.id.number c.in-None.ensures.none)

pub answer_in-answer-requires-clause-made : goal.answer_in-answer-requires-clause-made
answer_in-answer-requires-clause-made c = rw c.with_room-pattern.ensures (has_group c.self.invariant.follows c.args.id.number c.in-Some.message.now c.in-Some.ensures.there.0)

pub answer_in-answer-requires-clause-sender : goal.answer_in-answer-requires-clause-sender
answer_in-answer-requires-clause-sender c =
    let q = c.in-Some.message.now in
    let both : Some q ≡ Some c.unwrap-fate.result = sym c.in-Some.ensures.there.0 ∙ sym c.shift_remove.ensures.value ∙ c.unwrap-fate.ensures in
    let same : c.unwrap-fate.result ≡ q = cc in
    let fate : c.unwrap-fate.result.fate ≡ q.fate = ap (λ (x : Request). x.fate) same in
    rw (c.with_room-pattern.ensures, fate) (sender_found c.self.invariant.follows c.args.id.number q c.in-Some.ensures.there.0)

pub invariant_of-self : goal.invariant_of-self
invariant_of-self c =
    let a = c.self.inside in
    let longer = c.push_reserved.ensures.items ∙ ap (λ x. a.log.items ++ Received c.args.id x ∷ []) c.of-noted.ensures in
    let less = one_less (is_some c.shift_remove.result) (index_map_len c.shift_remove.new.self) (index_map_len a.requests) c.shift_remove.ensures.len (ap is_some c.unwrap-fate.ensures) in
    record {
      follows = rw longer
          (follows_released c.self.invariant.follows (Received c.args.id c.answer_in-answer.result) refl c.args.id.number (record { releases_this = λ k. refl; probes_none = λ k. refl }) refl c.in-Some.message.now c.in-Some.ensures.there.0 (get nat_eq c.shift_remove.new.self) c.shift_remove.ensures.updates.0);
      places = omega (arith, c.self.invariant.places, less, c.push_reserved.ensures.len, c.push_reserved.ensures.capacity);
      tells = quiet _ _ _ _ longer c.self.invariant.tells silent;
      countable = omega (arith, c.push_reserved.ensures.capacity, c.self.invariant.countable);
    }

pub returns-clause-answer : goal.returns-clause-answer
returns-clause-answer c =
    let q = c.in-Some.message.now in
    let both : Some q ≡ Some c.unwrap-fate.result = sym c.in-Some.ensures.there.0 ∙ sym c.shift_remove.ensures.value ∙ c.unwrap-fate.ensures in
    let same : c.unwrap-fate.result ≡ q = cc in
    let fate : c.unwrap-fate.result.fate ≡ q.fate = ap (λ (x : Request). x.fate) same in
    subst (λ (v : RankView). IsMessageAnswer v.state.ranks v.state.log c.args.id.number c.args.room c.answer_in-answer.result) c.self.view_is
    (answered_message c.self.invariant.follows c.args.id.number c.in-Some.message.now c.in-Some.ensures.there.0 c.in-Some.ensures.there.1 c.args.room _ c.answer_in-answer.result (rw (c.with_room-pattern.ensures, fate) at c.answer_in-answer.ensures))

pub returns-clause-message : goal.returns-clause-message
returns-clause-message c =
    subst (λ (v : RankView). (i : ℕ) × (p : Pattern) × IsMessage v.state.log c.args.id.number i p) c.self.view_is
    (is_message c.self.invariant.follows.in_step c.args.id.number c.in-Some.message.now c.in-Some.ensures.there.0 c.in-Some.ensures.there.1)
