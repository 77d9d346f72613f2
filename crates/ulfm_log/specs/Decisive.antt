-- The entries of a log that tell of the last shrinks and the last agreements.
use Rattle.std.specs.Prelude.{◌≡◌, ℕ, ◌-◌, ◌==◌, Bool, true, false, List, filter, nat_lt, not}
use Rattle.ulfm_base.specs.Table.{count_at}
use Rattle.ulfm_base.specs.declared.item.Item.{Item}
use Rattle.ulfm_base.specs.declared.item.Item.TheVariants.{Enter}
use Rattle.ulfm_base.specs.declared.topic.Topic.{Topic}
use Rattle.ulfm_base.specs.Topic.{is_agreement, round_of}
use Rattle.ulfm_log.specs.declared.entry.Entry.{Entry}
use Rattle.ulfm_log.specs.declared.entry.Entry.TheVariants.{Entered, Adopted, Took}
use Rattle.ulfm_log.specs.Proposal.{rounds_of}

-- how many agreements, and how many shrinks, are counted of each communicator, and whether there is room for one more of each
pub record RoundsView : Type 0 where
  pub agreements : List (ℕ × ℕ)
  pub shrinks : List (ℕ × ℕ)
  pub room : Bool

-- the counts of this kind: of agreements, or else of shrinks
abbrev pub counts_of : RoundsView → Bool → List (ℕ × ℕ)
counts_of rounds true = rounds.agreements
counts_of rounds false = rounds.shrinks

-- how many rounds of this kind were entered on the communicator c
abbrev pub rounds_on : RoundsView → Bool → ℕ → ℕ
rounds_on rounds agrees c = count_at (counts_of rounds agrees) c

-- the same counts, whatever room there is
pub record CountsSame (old new : RoundsView) : Type 0 where
  pub agreements : new.agreements ≡ old.agreements
  pub shrinks : new.shrinks ≡ old.shrinks

-- how many rounds of a topic's kind are counted on its communicator
abbrev pub rounds_at : (Bool → ℕ → ℕ) → Topic → ℕ
rounds_at counts topic = counts (is_agreement topic.purpose) topic.context.number

-- a topic is no round before the last one of its kind that was entered on its communicator
abbrev pub is_current : (Bool → ℕ → ℕ) → Topic → Bool
is_current counts topic = not (nat_lt (round_of topic.purpose) (rounds_at counts topic - 1))

-- a topic is the round that is to be entered next of its kind on its communicator
abbrev pub is_next : (Bool → ℕ → ℕ) → Topic → Bool
is_next counts topic = round_of topic.purpose == rounds_at counts topic

-- an item brings an entrance into such a topic
abbrev pub item_tells : (Bool → ℕ → ℕ) → Item → Bool
item_tells counts (Enter entrance) = is_current counts entrance.topic
item_tells counts _ = false

-- an entry tells of such a topic: it enters or adopts it, or took another rank's entrance
abbrev pub tells : (Bool → ℕ → ℕ) → Entry → Bool
tells counts (Entered entrance) = is_current counts entrance.topic
tells counts (Adopted decision) = is_current counts decision.topic
tells counts (Took from item) = item_tells counts item
tells counts _ = false

-- these entries of a log, and how many rounds it enters of each kind on each communicator
pub record IsTold (log told : List Entry) (rounds : RoundsView) : Type 0 where
  pub rows : told ≡ filter (tells (rounds_of log)) log
  pub counts : (agrees : Bool) (c : ℕ) → rounds_on rounds agrees c ≡ rounds_of log agrees c
