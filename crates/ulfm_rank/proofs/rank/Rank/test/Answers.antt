use Rattle.ulfm_log.proofs.Sifted.{quiet, silent}
use Rattle.std.proofs.Common.{◌≡◌, ℕ, true, false, refl, ap, sym, subst, arith, ◌∙◌, [], ◌∷◌, ◌++◌, nat_eq}
use Rattle.ulfm_rank.proofs.Common.{Pattern, RankView, Released, IsTestAnswer, IsRequest, IsNoRequest, is_some, is_stopped, is_waiting, get, index_map_len}
use Rattle.ulfm_rank.proofs.Answered.{is_request, no_request}
use Rattle.ulfm_rank.proofs.Requested.{has_group, sender_found, answered, waiting}
use Rattle.ulfm_rank.proofs.Whole.{follows_released, one_less}
use Rattle.ulfm_rank.proofs.rank.Rank.test.Goals as goal

pub returns-in-None-clause-refused : goal.returns-in-None-clause-refused
returns-in-None-clause-refused c =
    subst (λ (v : RankView). (is_stopped v.state.log ≡ false) × IsNoRequest v.state.log c.args.id.number) c.self.view_is
    (sym c.self.invariant.follows.halted ∙ c.if-self.false, no_request c.self.invariant.follows.in_step c.args.id.number c.in-None.ensures.none)

pub answer_to_waiting-requires : goal.answer_to_waiting-requires
answer_to_waiting-requires c = has_group c.self.invariant.follows c.args.id.number c.in-Some.request.now c.in-Some.ensures.there.0

pub returns-then-is_waiting-clause-answer : goal.returns-then-is_waiting-clause-answer
returns-then-is_waiting-clause-answer c =
    let q = c.in-Some.request.now in
    let waits : is_waiting q.fate ≡ true = sym c.is_waiting.ensures ∙ c.if-is_waiting.true in
    subst (λ (v : RankView). IsTestAnswer v.state.ranks v.state.log c.args.id.number c.answer_to_waiting.result) c.self.view_is
    (answered c.self.invariant.follows c.args.id.number q c.in-Some.ensures.there.0 c.answer_to_waiting.result (rw (waiting q.fate waits) c.answer_to_waiting.ensures))

pub returns-then-is_waiting-clause-request : goal.returns-then-is_waiting-clause-request
returns-then-is_waiting-clause-request c =
    subst (λ (v : RankView). (i : ℕ) × (p : Pattern) × IsRequest v.state.log c.args.id.number i p) c.self.view_is
    (is_request c.self.invariant.follows.in_step c.args.id.number c.in-Some.request.now c.in-Some.ensures.there.0 c.in-Some.ensures.there.1)

pub answer_in-answer-requires-clause-made : goal.answer_in-answer-requires-clause-made
answer_in-answer-requires-clause-made c = has_group c.self.invariant.follows c.args.id.number c.unwrap-request.result (sym c.shift_remove.ensures.value ∙ c.unwrap-request.ensures)

pub answer_in-answer-requires-clause-sender : goal.answer_in-answer-requires-clause-sender
answer_in-answer-requires-clause-sender c = sender_found c.self.invariant.follows c.args.id.number c.unwrap-request.result (sym c.shift_remove.ensures.value ∙ c.unwrap-request.ensures)

pub invariant_of-self : goal.invariant_of-self
invariant_of-self c =
    let a = c.self.inside in
    let found = sym c.shift_remove.ensures.value ∙ c.unwrap-request.ensures in
    let longer = c.push_reserved.ensures.items ∙ ap (λ x. a.log.items ++ Released c.args.id x ∷ []) c.of-noted.ensures in
    let less = one_less (is_some c.shift_remove.result) (index_map_len c.shift_remove.new.self) (index_map_len a.requests) c.shift_remove.ensures.len (ap is_some c.unwrap-request.ensures) in
    record {
      follows = rw longer
          (follows_released c.self.invariant.follows (Released c.args.id c.answer_in-answer.result) refl c.args.id.number (record { releases_this = λ k. refl; probes_none = λ k. refl }) refl c.unwrap-request.result found (get nat_eq c.shift_remove.new.self) c.shift_remove.ensures.updates.0);
      places = omega (arith, c.self.invariant.places, less, c.push_reserved.ensures.len, c.push_reserved.ensures.capacity);
      tells = quiet _ _ _ _ longer c.self.invariant.tells silent;
      countable = omega (arith, c.push_reserved.ensures.capacity, c.self.invariant.countable);
    }

pub returns-clause-answer : goal.returns-clause-answer
returns-clause-answer c =
    subst (λ (v : RankView). IsTestAnswer v.state.ranks v.state.log c.args.id.number c.answer_in-answer.result) c.self.view_is
    (answered c.self.invariant.follows c.args.id.number c.unwrap-request.result (sym c.shift_remove.ensures.value ∙ c.unwrap-request.ensures) c.answer_in-answer.result c.answer_in-answer.ensures)

pub returns-clause-request : goal.returns-clause-request
returns-clause-request c =
    subst (λ (v : RankView). (i : ℕ) × (p : Pattern) × IsRequest v.state.log c.args.id.number i p) c.self.view_is
    (is_request c.self.invariant.follows.in_step c.args.id.number c.in-Some.request.now c.in-Some.ensures.there.0 c.in-Some.ensures.there.1)
