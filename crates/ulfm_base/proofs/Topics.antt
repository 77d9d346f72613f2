-- Topics are equal exactly where the test passes.
use Rattle.std.proofs.Common.{◌≡◌, ◌==◌, true, refl, ap, subst}
use Rattle.std.proofs.lemmas.Bool.{false≢true, and_parts, and_from, eqb-true, eq-eqb}
use Rattle.ulfm_base.specs.declared.topic.Purpose.{Purpose}
use Rattle.ulfm_base.specs.declared.topic.Purpose.TheVariants.{Shrink, Agree}
use Rattle.ulfm_base.specs.declared.topic.Topic.{Topic}
use Rattle.ulfm_base.specs.Topic.{is_purpose, is_topic}
use Rattle.ulfm_base.proofs.Numbers.{same_context}

purposes_equal : (a b : Purpose) → is_purpose a b ≡ true → a ≡ b
purposes_equal (Shrink round) (Shrink other) h = ap Shrink (eqb-true round other h)
purposes_equal (Shrink round) (Agree other) h = absurd (false≢true h)
purposes_equal (Agree round) (Shrink other) h = absurd (false≢true h)
purposes_equal (Agree round) (Agree other) h = ap Agree (eqb-true round other h)

purpose_itself : (a : Purpose) → is_purpose a a ≡ true
purpose_itself (Shrink round) = eq-eqb round round refl
purpose_itself (Agree round) = eq-eqb round round refl

-- topics of which the test passes are equal
pub topics_equal : (a b : Topic) → is_topic a b ≡ true → a ≡ b
topics_equal a b h =
    let parts = and_parts (a.context.number == b.context.number) (is_purpose a.purpose b.purpose) h in
    let context = same_context a.context b.context (eqb-true a.context.number b.context.number parts.0) in
    let purpose = purposes_equal a.purpose b.purpose parts.1 in
    λ i. record { context = context i; purpose = purpose i }

-- a topic is itself
pub topic_itself : (a : Topic) → is_topic a a ≡ true
topic_itself a = and_from _ _ (eq-eqb a.context.number a.context.number refl) (purpose_itself a.purpose)

-- the test passes of equal topics
pub topic_passes : (a b : Topic) → a ≡ b → is_topic a b ≡ true
topic_passes a b e = subst (λ (t : Topic). is_topic a t ≡ true) e (topic_itself a)
