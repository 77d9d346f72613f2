-- What a decider knows of the decisions of shrinks and agreements, by the numbers of their topics.
use Rattle.std.specs.Prelude.{◌≡◌, ℕ, ◌+◌, ◌*◌, ◌/◌, ◌%◌, List, [], Option, None, Some, IfSome, is_some, All, if◌then◌else◌}
use Rattle.std.specs.FinMap.{find, put}
use Rattle.std.specs.Ordering.{nat_cmp}
use Rattle.ulfm_base.specs.Topic.{round_of}
use Rattle.ulfm_base.specs.declared.context.TheConstants.{PAST_CONTEXTS}
use Rattle.ulfm_base.specs.declared.decision.Decision.{Decision}
use Rattle.ulfm_base.specs.declared.topic.Purpose.{Purpose}
use Rattle.ulfm_base.specs.declared.topic.Purpose.TheVariants.{Shrink, Agree}
use Rattle.ulfm_base.specs.declared.topic.Topic.{Topic}

-- which of a communicator's two kinds of rows a purpose has
abbrev pub kind_of : Purpose → ℕ
kind_of (Shrink round) = 0
kind_of (Agree round) = 1

-- the number of a topic's row: each context has one for each 64 shrinks, and one for each 64 agreements
abbrev pub row_of : Topic → ℕ
row_of topic = 2 * PAST_CONTEXTS * (round_of topic.purpose / 64) + (2 * topic.context.number + kind_of topic.purpose)

-- the number of a topic: each row has 64
abbrev pub number_of : Topic → ℕ
number_of topic = 64 * row_of topic + round_of topic.purpose % 64

-- decisions by the numbers of their topics, which rise
abbrev pub Known : Type 0
Known = List (ℕ × Decision)

-- nothing is known
abbrev pub nothing_known : Known
nothing_known = []

-- the decision that is known on a topic, if one is
abbrev pub known_at : Known → Topic → Option Decision
known_at known topic = find nat_cmp (number_of topic) known

-- what is known, with this decision on a topic, where none was known on it
abbrev pub with_known : Known → Topic → Decision → Known
with_known known topic held = if is_some (known_at known topic) then known else put nat_cmp (number_of topic) held known

-- a decision by the number of its topic
abbrev pub by_number : Decision → ℕ × Decision
by_number d = (number_of d.topic, d)

-- a decision is the one that was known, if one was
abbrev pub Agrees : Option Decision → Decision → Type 0
Agrees known held = IfSome known (λ d. d ≡ held)

-- where both know a decision, it is the same one
abbrev pub BothAgree : Option Decision → Option Decision → Type 0
BothAgree known other = IfSome known (λ d. IfSome other (λ e. e ≡ d))

-- A decision d is handed in, and one is held from now on: the one that was known, if one was; d itself, if none was known
-- and the cells aren't shared. It is known from now on, and nothing else changes.
pub record Answers (board : Option (List ℕ)) (old : Known) (d held : Decision) (new : Known) : Type 0 where
  pub as_before : Agrees (known_at old d.topic) held
  pub first_stays : board ≡ None → known_at old d.topic ≡ None → held ≡ d
  pub known_now : known_at new d.topic ≡ Some held
  pub others_stay : new ≡ with_known old d.topic held

-- out of memory: nothing is known on a topic
pub record Starves (known : Known) (topic : Topic) : Type 0 where
  pub unknown : known_at known topic ≡ None

-- all are seats of one board
abbrev pub OneBoard : {D : Type 0} → (D → Option (List ℕ)) → List D → Type 0
OneBoard {D} board all = (names : List ℕ) × All (λ s. board s ≡ Some names) all
