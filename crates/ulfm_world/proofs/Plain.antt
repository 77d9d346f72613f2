-- An entry that adopts nothing leaves what was adopted.
use Rattle.std.proofs.Common.{◌≡◌, ℕ, false, List, refl, ap, sym, subst, ◌∙◌, inl, inr, Some, All}
use Rattle.ulfm_board.specs.Known.{Known}
use Rattle.ulfm_world.proofs.Common.{Topic, topic_of, Entry, Adopted, State, Step, Shrink, Agree, EntersBy, RoundsCounted, none-some, same_Some, false≢true, or_from, false_from_ne_true, All-push, AdoptsEntered, any-push, LeavesOpen, StepReport}
use Rattle.ulfm_log.specs.Proposal.{adopts, has_adopted}
use Rattle.ulfm_world.proofs.Agreed.{IsAdopted}
use Rattle.ulfm_script.proofs.Fitting.{IsPlain, AddsPlain, entered_new, opens_add}
use Rattle.ulfm_script.proofs.Rounds.{entered-now}

plain_adopts : (c : Topic) (e : Entry) → IsPlain e → adopts c e ≡ false
plain_adopts c (Adopted d) h = absurd h
plain_adopts c _ h = refl

plain_adopted : (decided : Known) (me : ℕ) (e : Entry) → IsPlain e → IsAdopted decided me e
plain_adopted decided me (Adopted d) h = absurd h
plain_adopted decided me _ h = tt

-- such an entry adopts no decision
pub adopted-plain : (n me : ℕ) (c : Topic) {old new : List Entry} → AddsPlain n me old new → has_adopted old c ≡ false → has_adopted new c ≡ false
adopted-plain n me c (inl same) h = ap (λ (x : List Entry). has_adopted x c) same ∙ h
adopted-plain n me c {old} (inr more) h =
    ap (λ (x : List Entry). has_adopted x c) more.3 ∙ any-push (adopts c) old more.0 ∙ or_from (has_adopted old c) (adopts c more.0) h (plain_adopts c more.0 more.2)

-- and what was adopted is held
pub held-plain : (decided : Known) (n me : ℕ) {old new : List Entry} → AddsPlain n me old new → All (IsAdopted decided me) old → All (IsAdopted decided me) new
held-plain decided n me (inl same) h = rw same h
held-plain decided n me {old} (inr more) h = rw more.3 (All-push (IsAdopted decided me) old more.0 h (plain_adopted decided me more.0 more.2))

-- on a topic that a step enters no decision was adopted
entered_unadopted : (r : State) (asked : Step) (topic : Topic) (new : State) → AdoptsEntered r.log → RoundsCounted r.log → EntersBy r asked topic new → has_adopted r.log topic ≡ false
entered_unadopted r asked topic new entered counted e =
    false_from_ne_true (has_adopted r.log topic) (λ adopted. false≢true (sym (entered_new r asked topic new counted e).1 ∙ entered topic adopted))

-- a step that is left open
pub opened_unadopted : (done : List StepReport) (r new : State) (asked : Step) (topic : Topic) → AdoptsEntered r.log → RoundsCounted r.log → LeavesOpen done r asked new → topic_of new.log asked ≡ Some topic → has_adopted new.log topic ≡ false
opened_unadopted done r new (Shrink comm again) topic entered counted h about =
    let here : has_adopted r.log topic ≡ false = entered_unadopted r (Shrink comm again) topic new entered counted (subst (λ t. EntersBy r (Shrink comm again) t new) (same_Some _ topic (sym (entered-now r (Shrink comm again) h.0 new h.1) ∙ about)) h.1) in
    adopted-plain r.ranks r.me topic (opens_add done r (Shrink comm again) new counted h) here
opened_unadopted done r new (Agree flag comm) topic entered counted h about =
    let here : has_adopted r.log topic ≡ false = entered_unadopted r (Agree flag comm) topic new entered counted (subst (λ t. EntersBy r (Agree flag comm) t new) (same_Some _ topic (sym (entered-now r (Agree flag comm) h.0 new h.1) ∙ about)) h.1) in
    adopted-plain r.ranks r.me topic (opens_add done r (Agree flag comm) new counted h) here
opened_unadopted done r new _ topic entered counted h about = absurd (none-some topic about)
