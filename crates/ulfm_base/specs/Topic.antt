-- What ranks decide about, and what each brings into a decision (ULFM, shrink and agree).
use Rattle.std.specs.Prelude.{◌≡◌, ℕ, ◌<◌, Bool, true, false, ◌&&◌, ◌==◌, not, Option}
use Rattle.std.specs.Option.{is_some, option_eq}
use lib.Pointwise.{pointwise}
use mathlib.Core.Bool.{beq}
use Rattle.ulfm_base.specs.declared.context.Context.{Context}
use Rattle.ulfm_base.specs.declared.topic.Purpose.{Purpose}
use Rattle.ulfm_base.specs.declared.topic.Purpose.TheVariants.{Shrink, Agree}
use Rattle.ulfm_base.specs.declared.topic.Topic.{Topic}
use Rattle.ulfm_base.specs.declared.contribution.Contribution.{Contribution}
use Rattle.ulfm_base.specs.Context.{nth_shrink}
use Rattle.ulfm_base.specs.declared.context.TheConstants.{PAST_CONTEXTS}

-- the shrink of this number of a communicator
abbrev pub shrink_topic : Context → ℕ → Topic
shrink_topic context round = record { context = context; purpose = Shrink round }

-- the agreement of this number on a communicator
abbrev pub agreement_topic : Context → ℕ → Topic
agreement_topic context round = record { context = context; purpose = Agree round }

-- the round of this number on a communicator: an agreement, or else a shrink
abbrev pub topic_on : Bool → Context → ℕ → Topic
topic_on true context round = agreement_topic context round
topic_on false context round = shrink_topic context round

-- two purposes are the same
abbrev pub is_purpose : Purpose → Purpose → Bool
is_purpose (Shrink round) (Shrink other) = round == other
is_purpose (Agree round) (Agree other) = round == other
is_purpose _ _ = false

-- two topics are the same
abbrev pub is_topic : Topic → Topic → Bool
is_topic topic other = topic.context.number == other.context.number && is_purpose topic.purpose other.purpose

-- the purpose is an agreement
abbrev pub is_agreement : Purpose → Bool
is_agreement (Shrink round) = false
is_agreement (Agree round) = true

-- the number of a purpose among the shrinks, or among the agreements, of its communicator
abbrev pub round_of : Purpose → ℕ
round_of (Shrink round) = round
round_of (Agree round) = round

-- the purpose is an agreement, or else a shrink
abbrev pub is_of_kind : Bool → Purpose → Bool
is_of_kind true purpose = is_agreement purpose
is_of_kind false purpose = not (is_agreement purpose)

-- a topic is a round of this kind on the communicator c
abbrev pub is_round_on : Bool → ℕ → Topic → Bool
is_round_on agrees c topic = topic.context.number == c && is_of_kind agrees topic.purpose

-- a flag is there exactly for agreements
abbrev pub Fits : Purpose → Option ℕ → Type 0
Fits purpose flag = is_some flag ≡ is_agreement purpose

-- a shrink has a context for its communicator
abbrev pub HasShrink : Topic → Type 0
HasShrink topic = (round : ℕ) → topic.purpose ≡ Shrink round → nth_shrink round topic.context.number < PAST_CONTEXTS

-- two contributions are the same
abbrev pub is_contribution : Contribution → Contribution → Bool
is_contribution one other = pointwise beq one.known.members other.known.members && option_eq (λ a b. a == b) one.flag other.flag
