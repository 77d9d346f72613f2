-- Topics by their numbers, and what is known on one where a decision on one becomes known.
use Rattle.std.proofs.Common.{◌≡◌, ◌≢◌, ◌==◌, ◌<◌, ◌%◌, ◌/◌, ℕ, Bool, cond, ap, sym, ◌∙◌, refl, subst, arith, inl, inr, is_some, Option, Some, None}
use Rattle.std.specs.Option.{unwrap_or}
use Rattle.std.proofs.lemmas.Bool.{cases_eq, eq-eqb, ne_eqb}
use Rattle.std.specs.Cmp.{nat_cmp_total, unsigned_tied}
use Rattle.std.specs.FinMap.{find, put}
use Rattle.std.specs.FinMap.Entries.{find-put}
use Rattle.std.specs.Ordering.{nat_cmp}
use Rattle.ulfm_base.specs.Topic.{round_of}
use Rattle.ulfm_base.specs.declared.decision.Decision.{Decision}
use Rattle.ulfm_base.specs.declared.topic.Purpose.{Purpose}
use Rattle.ulfm_base.specs.declared.topic.Purpose.TheVariants.{Shrink, Agree}
use Rattle.ulfm_base.specs.declared.topic.Topic.{Topic}
use Rattle.ulfm_base.proofs.Numbers.{same_context}
use Rattle.ulfm_board.specs.Known.{Agrees, Known, kind_of, known_at, number_of, row_of, with_known}

purposes_apart : (a b : Purpose) → kind_of a ≡ kind_of b → round_of a ≡ round_of b → a ≡ b
purposes_apart (Shrink round) (Shrink other) kinds rounds = ap Shrink rounds
purposes_apart (Shrink round) (Agree other) kinds rounds = absurd (omega (arith, kinds))
purposes_apart (Agree round) (Shrink other) kinds rounds = absurd (omega (arith, kinds))
purposes_apart (Agree round) (Agree other) kinds rounds = ap Agree rounds

kind_low : (a : Purpose) → kind_of a < 2
kind_low (Shrink round) = omega arith
kind_low (Agree round) = omega arith

-- topics of one number are the same
pub topics_apart : (a b : Topic) → number_of a ≡ number_of b → a ≡ b
topics_apart a b h =
    let places : round_of a.purpose % 64 ≡ round_of b.purpose % 64 = omega (arith, h) in
    let rows : row_of a ≡ row_of b = omega (arith, h) in
    let low = kind_low a.purpose in
    let other_low = kind_low b.purpose in
    let blocks : round_of a.purpose / 64 ≡ round_of b.purpose / 64 = omega (arith, a.context.in_range, b.context.in_range, low, other_low, rows) in
    let numbers : a.context.number ≡ b.context.number = omega (arith, rows, blocks, low, other_low) in
    let kinds : kind_of a.purpose ≡ kind_of b.purpose = omega (arith, rows, blocks, numbers) in
    let rounds : round_of a.purpose ≡ round_of b.purpose = omega (arith, places, blocks) in
    let context = same_context a.context b.context numbers in
    let purpose = purposes_apart a.purpose b.purpose kinds rounds in
    λ i. record { context = context i; purpose = purpose i }

-- the decision of a number, where one of another is put in, or one of the same
pub find_put : (number other : ℕ) (held : Decision) (known : Known) → find nat_cmp number (put nat_cmp other held known) ≡ cond (number == other) (Some held) (find nat_cmp number known)
find_put number other held known =
    find-put nat_cmp nat_cmp_total number other held known ∙ ap (λ (b : Bool). cond b (Some held) (find nat_cmp number known)) (unsigned_tied number other)

-- where nothing was known on a topic, the decision is put in
pub with_new : (known : Known) (topic : Topic) (held : Decision) → known_at known topic ≡ None → with_known known topic held ≡ put nat_cmp (number_of topic) held known
with_new known topic held none = ap (λ (o : Option Decision). cond (is_some o) known (put nat_cmp (number_of topic) held known)) none

-- where one was known, nothing changes
pub with_old : (known : Known) (topic : Topic) (held d : Decision) → known_at known topic ≡ Some d → with_known known topic held ≡ known
with_old known topic held d some = ap (λ (o : Option Decision). cond (is_some o) known (put nat_cmp (number_of topic) held known)) some

-- what is known on another topic stays
pub known_other : (known : Known) (topic other : Topic) (held : Decision) → number_of topic ≢ number_of other → known_at (with_known known other held) topic ≡ known_at known topic
known_other known topic other held apart = at (known_at known other) refl
  where
    at : (o : Option Decision) → known_at known other ≡ o → known_at (with_known known other held) topic ≡ known_at known topic
    at (Some d) is = ap (λ (k : Known). known_at k topic) (with_old known other held d is)
    at None is =
        ap (λ (k : Known). known_at k topic) (with_new known other held is) ∙ find_put (number_of topic) (number_of other) held known
        ∙ ap (λ (b : Bool). cond b (Some held) (known_at known topic)) (ne_eqb (number_of topic) (number_of other) apart)

-- what is known on the topic from now on, where no other decision was known on it
pub known_with : (known : Known) (topic : Topic) (held : Decision) → Agrees (known_at known topic) held → known_at (with_known known topic held) topic ≡ Some held
known_with known topic held agrees = at (known_at known topic) refl agrees
  where
    at : (o : Option Decision) → known_at known topic ≡ o → Agrees o held → known_at (with_known known topic held) topic ≡ Some held
    at (Some d) is same = ap (λ (k : Known). known_at k topic) (with_old known topic held d is) ∙ is ∙ ap Some same
    at None is same =
        ap (λ (k : Known). known_at k topic) (with_new known topic held is) ∙ find_put (number_of topic) (number_of topic) held known
        ∙ ap (λ (b : Bool). cond b (Some held) (known_at known topic)) (eq-eqb (number_of topic) (number_of topic) refl)

-- what is known on the topic from then on: what was known, else this decision
pub known_here : (known : Known) (topic : Topic) (held : Decision) → known_at (with_known known topic held) topic ≡ Some (unwrap_or (known_at known topic) held)
known_here known topic held = at (known_at known topic) refl
  where
    at : (o : Option Decision) → known_at known topic ≡ o → known_at (with_known known topic held) topic ≡ Some (unwrap_or (known_at known topic) held)
    at (Some d) is = ap (λ (k : Known). known_at k topic) (with_old known topic held d is) ∙ is ∙ ap (λ (o : Option Decision). Some (unwrap_or o held)) (sym is)
    at None is = known_with known topic held (subst (λ (o : Option Decision). Agrees o held) (sym is) tt) ∙ ap (λ (o : Option Decision). Some (unwrap_or o held)) (sym is)

-- where the same was known on a topic, the same is known on it once one decision is known to both
pub known_alike : (known seen : Known) (about topic : Topic) (held : Decision) → known_at known topic ≡ known_at seen topic → known_at (with_known known about held) topic ≡ known_at (with_known seen about held) topic
known_alike known seen about topic held agree = elim (cases_eq (number_of topic) (number_of about)) [
  | inl same ↦
      let at : (k : Known) → known_at (with_known k about held) topic ≡ Some (unwrap_or (known_at k topic) held) =
      λ k. ap (λ (n : ℕ). find nat_cmp n (with_known k about held)) same ∙ known_here k about held ∙ ap (λ (n : ℕ). Some (unwrap_or (find nat_cmp n k) held)) (sym same) in
      at known ∙ ap (λ (o : Option Decision). Some (unwrap_or o held)) agree ∙ sym (at seen)
  | inr other ↦ known_other known topic about held other ∙ agree ∙ sym (known_other seen topic about held other)
]
