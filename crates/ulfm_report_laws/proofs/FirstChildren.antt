-- A step that asks for no further communicator makes the first one, or is refused as it always was.
use Rattle.std.proofs.Common.{◌≡◌, ◌<◌, ℕ, Bool, true, false, ◌+◌, ◌*◌, ◌&&◌, nat_lt, nat_le, [], ◌∷◌, Option, Some, None, if◌then◌else◌, ◌⊎◌, refl, ap, arith, sym, ◌∙◌, subst}
use Rattle.std.proofs.lemmas.Bool.{lt-leb, lt-ltb, ltb-false}
use Rattle.ulfm_base.proofs.Children.{first_children}
use Rattle.ulfm_base.specs.Context.{nth_dup, nth_shrink}
use Rattle.ulfm_base.specs.Topic.{round_of, shrink_topic}
use Rattle.ulfm_base.specs.declared.context.TheConstants.{PAST_CONTEXTS}
use Rattle.ulfm_base.specs.declared.error.CallError.{CallError}
use Rattle.ulfm_base.specs.declared.error.CallError.TheVariants.{NoComm, AlreadyMade, NoContext, Stopped}
use Rattle.ulfm_log.specs.Communicators.{dups_of}
use Rattle.ulfm_log.specs.Proposal.{is_shrinking, shrinks}
use Rattle.ulfm_log.specs.declared.entry.Entry.TheVariants.{Duplicated}
use Rattle.ulfm_rank.proofs.Refusals.{all_pass}
use Rattle.ulfm_rank.specs.Checks.{Passes, dup_checks, first_refusal, lacks, making_checks, shrink_checks}
use Rattle.ulfm_answer.specs.declared.answer.StepAnswer.TheVariants.{Made}
use Rattle.ulfm_script.proofs.Adopting.{adopted_about}
use Rattle.ulfm_script.specs.Calls.{AnswersDup, AnswersEntry, EntersBy, EntersSome}
use Rattle.ulfm_report_laws.proofs.Common.{AnswersAdoption, Context, Decision, OutOfMemory, Refused, Revoked, Shrink, Shrunk, State, StepAnswer, Topic, is_revoked, is_stopped, logged, same_Some}
use Rattle.ulfm_report_laws.specs.FirstMade.{AnswersFirstDup, EntersFirstShrink, GivesFirstShrink, RefusesFirstShrink, first_checks, first_dup_checks, first_shrink_checks}

-- a context of the first child of one of 0 to 30 is a number that contexts have
few : (c count child : ℕ) → c < 63 → (count ≡ 0 → c < 31 → child < PAST_CONTEXTS) → first_refusal (making_checks false c count child) ≡ first_refusal (first_checks c count)
few c count child low fits =
    ap (λ (b : Bool). first_refusal ((b && nat_lt 0 count, AlreadyMade) ∷ (b && nat_lt 30 c, NoContext) ∷ (nat_le PAST_CONTEXTS child, NoContext) ∷ [])) (lt-ltb c 63 low) ∙ pick (nat_lt 0 count) (nat_lt 30 c) refl refl
  where
    pick : (was past : Bool) → nat_lt 0 count ≡ was → nat_lt 30 c ≡ past → first_refusal ((was, AlreadyMade) ∷ (past, NoContext) ∷ (nat_le PAST_CONTEXTS child, NoContext) ∷ []) ≡ first_refusal ((was, AlreadyMade) ∷ (past, NoContext) ∷ [])
    pick true past w p = refl
    pick false true w p = refl
    pick false false w p =
        let none = ltb-false 0 count w in
        let small = ltb-false 30 c p in
        ap (λ (b : Bool). if b then Some NoContext else None) (lt-leb PAST_CONTEXTS child (fits (omega (arith, none)) (omega (arith, small))))

dup_few : (r : State) (c : ℕ) → c < 63 → first_refusal (dup_checks false r c) ≡ first_refusal (first_dup_checks r c)
dup_few r c low =
    ap (λ (last : Option CallError). if is_stopped r.log then Some Stopped else if lacks r c then Some NoComm else if is_revoked r.log c then Some Revoked else last)
    (few c (dups_of r.log c) (nth_dup (dups_of r.log c) c) low (λ none small. let e : nth_dup (dups_of r.log c) c ≡ 2 * c + 1 = ap (λ (k : ℕ). nth_dup k c) none ∙ (first_children c small).0 in omega (arith, e, small)))

shrink_few : (r : State) (comm : Context) → comm.number < 63 → first_refusal (shrink_checks false r comm) ≡ first_refusal (first_shrink_checks r comm)
shrink_few r comm low =
    let c = comm.number in
    let n = shrinks r.log c in
    ap (λ (last : Option CallError). if is_stopped r.log then Some Stopped else if lacks r c then Some NoComm else if is_shrinking r.log comm then Some AlreadyMade else last)
    (few c n (nth_shrink n c) low (λ none small. let e : nth_shrink n c ≡ 2 * c + 2 = ap (λ (k : ℕ). nth_shrink k c) none ∙ (first_children c small).1 in omega (arith, e, small)))

-- a refusal by a check, or by out of memory, where the checks refuse with the same error
abbrev OrStarves : CallError → Option CallError → Type 0
OrStarves e refusal = (refusal ≡ Some e) ⊎ ((refusal ≡ None) × (e ≡ OutOfMemory))

pub dup_as_ever : (r new : State) (comm : Context) (answer : StepAnswer) → comm.number < 63 → AnswersDup r comm false answer new → AnswersFirstDup r comm answer new
dup_as_ever r new comm (Made child) low h =
    let c = comm.number in
    let passes : Passes (first_dup_checks r c) = sym (dup_few r c low) ∙ h.0 in
    let ok = all_pass (first_dup_checks r c) passes in
    let was = ltb-false 0 (dups_of r.log c) ok.1.1.1.0 in
    let past = ltb-false 30 c ok.1.1.1.1.0 in
    let none : dups_of r.log c ≡ 0 = omega (arith, was) in
    (passes, h.1 ∙ ap (λ (k : ℕ). nth_dup k c) none ∙ (first_children c (omega (arith, past))).0, h.2 ∙ ap (λ (k : ℕ). logged r (Duplicated comm k)) none)
dup_as_ever r new comm (Refused e) low h = (subst (OrStarves e) (dup_few r comm.number low) h.0, h.1)
dup_as_ever r new comm _ low h = absurd h

pub entry_as_ever : (r new : State) (comm : Context) (answer : StepAnswer) → comm.number < 63 → AnswersEntry r (Shrink comm false) answer new → RefusesFirstShrink r comm answer new
entry_as_ever r new comm (Refused e) low h = (subst (OrStarves e) (shrink_few r comm low) h.0, h.1)
entry_as_ever r new comm _ low h = absurd h

pub enters_as_ever : (r new : State) (comm : Context) → comm.number < 63 → EntersSome r (Shrink comm false) new → EntersFirstShrink r comm new
enters_as_ever r new comm low (topic, e) =
    let c = comm.number in
    let passes : Passes (first_shrink_checks r comm) = sym (shrink_few r comm low) ∙ e.accepted in
    let ok = all_pass (first_shrink_checks r comm) passes in
    let was = ltb-false 0 (shrinks r.log c) ok.1.1.1.0 in
    let none : shrinks r.log c ≡ 0 = omega (arith, was) in
    (passes, subst (λ (t : Topic). EntersBy r (Shrink comm false) t new) (sym (same_Some _ topic e.about) ∙ ap (λ (k : ℕ). shrink_topic comm k) none) e)

pub adoption_as_ever : (r new : State) (comm : Context) (again : Bool) (held : Decision) (answer : StepAnswer) → comm.number < 31 → AnswersAdoption r (Shrink comm again) (shrink_topic comm 0) held answer new → GivesFirstShrink comm answer
adoption_as_ever r new comm again held (Shrunk child group me) small h =
    h.1 ∙ ap (λ (t : Topic). nth_shrink (round_of t.purpose) comm.number) (adopted_about r (shrink_topic comm 0) held h.0) ∙ (first_children comm.number small).1
adoption_as_ever r new comm again held _ small h = tt
