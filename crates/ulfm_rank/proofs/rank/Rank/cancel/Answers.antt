use Rattle.ulfm_log.proofs.Sifted.{quiet, silent}
use Rattle.std.proofs.Common.{◌≡◌, ℕ, [], ◌∷◌, ◌++◌, false, refl, ap, sym, subst, arith, ◌∙◌, Some, nat_eq}
use Rattle.ulfm_rank.proofs.Common.{Pattern, Request, TestAnswer, RankView, Released, Cancelled, IsTestAnswer, IsRequest, IsNoRequest, is_some, is_release, is_stopped, is_waiting, get, index_map_len}
use Rattle.ulfm_rank.proofs.Answered.{is_request, no_request}
use Rattle.ulfm_rank.proofs.Cancelled.{in_step_cancelled}
use Rattle.ulfm_rank.proofs.Requested.{has_group, sender_found, answered, ended, unanswered}
use Rattle.ulfm_rank.proofs.Whole.{follows_released, follows_requests, one_less}
use Rattle.ulfm_rank.proofs.rank.Rank.cancel.Goals as goal

pub returns-in-None-clause-refused : goal.returns-in-None-clause-refused
returns-in-None-clause-refused c =
    subst (λ (v : RankView). (is_stopped v.state.log ≡ false) × IsNoRequest v.state.log c.args.id.number) c.self.view_is
    (sym c.self.invariant.follows.halted ∙ c.if-self.false, no_request c.self.invariant.follows.in_step c.args.id.number c.in-None.ensures.none)

pub invariant_of-self : goal.invariant_of-self
invariant_of-self c =
    let a = c.self.inside in
    let q = c.in-Some.request.now in
    let found = c.in-Some.ensures.there.0 in
    let less = one_less (is_some c.shift_remove.result) (index_map_len c.shift_remove.new.self) (index_map_len a.requests) c.shift_remove.ensures.len (ap is_some c.unwrap-request.ensures) in
    record {
      follows = rw c.push_reserved.ensures.items
          (follows_requests c.self.invariant.follows (Cancelled c.args.id) refl (in_step_cancelled c.self.invariant.follows.in_step c.args.id q found c.withdraw.new.self c.withdraw.ensures.tracks (get nat_eq c.shift_remove.new.self) c.shift_remove.ensures.updates.0));
      places = omega (arith, c.self.invariant.places, less, c.push_reserved.ensures.len, c.push_reserved.ensures.capacity);
      tells = quiet _ _ _ _ c.push_reserved.ensures.items c.self.invariant.tells silent;
      countable = omega (arith, c.push_reserved.ensures.capacity, c.self.invariant.countable);
    }

pub returns-then-waits-clause-answer : goal.returns-then-waits-clause-answer
returns-then-waits-clause-answer c =
    subst (λ (v : RankView). (answer : TestAnswer) × (is_release answer ≡ false) × IsTestAnswer v.state.ranks v.state.log c.args.id.number answer) c.self.view_is
    (unanswered c.self.invariant.follows c.args.id.number c.in-Some.request.now c.in-Some.ensures.there.0 (sym c.is_waiting-waits.ensures ∙ c.if-waits.true))

pub returns-then-waits-clause-request : goal.returns-then-waits-clause-request
returns-then-waits-clause-request c =
    subst (λ (v : RankView). (i : ℕ) × (p : Pattern) × IsRequest v.state.log c.args.id.number i p) c.self.view_is
    (is_request c.self.invariant.follows.in_step c.args.id.number c.in-Some.request.now c.in-Some.ensures.there.0 c.in-Some.ensures.there.1)

pub answer_in-answer-requires-clause-made : goal.answer_in-answer-requires-clause-made
answer_in-answer-requires-clause-made c = has_group c.self.invariant.follows c.args.id.number c.unwrap-request.result (sym c.shift_remove.ensures.value ∙ c.unwrap-request.ensures)

pub answer_in-answer-requires-clause-sender : goal.answer_in-answer-requires-clause-sender
answer_in-answer-requires-clause-sender c = sender_found c.self.invariant.follows c.args.id.number c.unwrap-request.result (sym c.shift_remove.ensures.value ∙ c.unwrap-request.ensures)

pub invariant_of-self-2 : goal.invariant_of-self-2
invariant_of-self-2 c =
    let a = c.self.inside in
    let found = sym c.shift_remove.ensures.value ∙ c.unwrap-request.ensures in
    let longer = c.push_reserved-2.ensures.items ∙ ap (λ x. a.log.items ++ Released c.args.id x ∷ []) c.of-noted.ensures in
    let less = one_less (is_some c.shift_remove.result) (index_map_len c.shift_remove.new.self) (index_map_len a.requests) c.shift_remove.ensures.len (ap is_some c.unwrap-request.ensures) in
    record {
      follows = rw longer
          (follows_released c.self.invariant.follows (Released c.args.id c.answer_in-answer.result) refl c.args.id.number (record { releases_this = λ k. refl; probes_none = λ k. refl }) refl c.unwrap-request.result found (get nat_eq c.shift_remove.new.self) c.shift_remove.ensures.updates.0);
      places = omega (arith, c.self.invariant.places, less, c.push_reserved-2.ensures.len, c.push_reserved-2.ensures.capacity);
      tells = quiet _ _ _ _ longer c.self.invariant.tells silent;
      countable = omega (arith, c.push_reserved-2.ensures.capacity, c.self.invariant.countable);
    }

pub returns-clause-answer : goal.returns-clause-answer
returns-clause-answer c =
    let r = c.unwrap-request.result in
    let found : get nat_eq c.self.inside.requests c.args.id.number ≡ Some r = sym c.shift_remove.ensures.value ∙ c.unwrap-request.ensures in
    let both : Some c.in-Some.request.now ≡ Some r = sym c.in-Some.ensures.there.0 ∙ found in
    let same : c.in-Some.request.now ≡ r = cc in
    let over : is_waiting r.fate ≡ false = ap (λ (x : Request). is_waiting x.fate) (sym same) ∙ sym c.is_waiting-waits.ensures ∙ c.if-waits.false in (
      ended _ _ r.pattern r.fate c.answer_in-answer.result over c.answer_in-answer.ensures,
      subst (λ (v : RankView). IsTestAnswer v.state.ranks v.state.log c.args.id.number c.answer_in-answer.result) c.self.view_is
          (answered c.self.invariant.follows c.args.id.number r found c.answer_in-answer.result c.answer_in-answer.ensures),
    )

pub returns-clause-request : goal.returns-clause-request
returns-clause-request c =
    subst (λ (v : RankView). (i : ℕ) × (p : Pattern) × IsRequest v.state.log c.args.id.number i p) c.self.view_is
    (is_request c.self.invariant.follows.in_step c.args.id.number c.in-Some.request.now c.in-Some.ensures.there.0 c.in-Some.ensures.there.1)
