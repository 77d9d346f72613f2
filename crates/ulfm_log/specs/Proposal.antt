-- Who is listed in a shrink or an agreement, and what a rank that entered it proposes (ULFM, shrink and agree).
use Rattle.std.specs.Prelude.{◌≡◌, MatchOption, ℕ, Bool, true, false, List, ◌==◌, ◌||◌, ◌&&◌, ◌<◌, ◌-◌, not, nat_eq, filter, length, Option, Some, None, is_some, slice_get, if◌then◌else◌}
use Rattle.std.specs.List.{list_any, list_all}
use lib.Pointwise.{pointwise}
use Rattle.ulfm_base.specs.declared.context.Context.{Context}
use Rattle.ulfm_base.specs.declared.contribution.Contribution.{Contribution}
use Rattle.ulfm_base.specs.declared.entrance.Entrance.{Entrance}
use Rattle.ulfm_base.specs.declared.topic.Topic.{Topic}
use Rattle.ulfm_base.specs.RankSet.{has}
use Rattle.ulfm_base.specs.declared.decision.Decision.{Decision}
use Rattle.ulfm_base.specs.Decision.{entry_at, in_entry}
use Rattle.ulfm_base.specs.declared.item.Item.{Item}
use Rattle.ulfm_base.specs.declared.item.Item.TheVariants.{Enter}
use Rattle.ulfm_base.specs.Group.{is_member, excluding, numbers_from}
use Rattle.ulfm_base.specs.Topic.{is_contribution, is_round_on, is_topic, topic_on}
use Rattle.ulfm_log.specs.declared.entry.Entry.{Entry}
use Rattle.ulfm_log.specs.declared.entry.Entry.TheVariants.{Entered, Adopted, Took}
use Rattle.ulfm_log.specs.Log.{first_given}
use Rattle.ulfm_log.specs.Facts.{is_gone}
use Rattle.ulfm_log.specs.State.{State}
use Rattle.ulfm_log.specs.Communicators.{members_of}

-- what an entrance brings into the decision on a topic
abbrev pub brought_to : Topic → Entrance → Option Contribution
brought_to topic entrance = if is_topic entrance.topic topic then Some entrance.contribution else None

-- what an entry of the log brings into the decision on a topic, by the rank's own entrance
abbrev pub entry_of : Topic → Entry → Option Contribution
entry_of topic (Entered entrance) = brought_to topic entrance
entry_of topic _ = None

-- what an item tells that its sender brought into the decision on a topic
abbrev pub item_entry : Topic → Item → Option Contribution
item_entry topic (Enter entrance) = brought_to topic entrance
item_entry topic _ = None

-- what s brought into the decision on a topic, by an item that was taken from it
abbrev pub heard_of : Topic → ℕ → Entry → Option Contribution
heard_of topic s (Took from item) = if from.number == s then item_entry topic item else None
heard_of topic s _ = None

-- the rank entered a topic
abbrev pub has_entered : List Entry → Topic → Bool
has_entered log topic = is_some (first_given (entry_of topic) log)

-- an entry adopts a decision on a topic
abbrev pub adopts : Topic → Entry → Bool
adopts topic (Adopted decision) = is_topic decision.topic topic
adopts topic _ = false

-- the rank adopted a decision on a topic
abbrev pub has_adopted : List Entry → Topic → Bool
has_adopted log topic = list_any (adopts topic) log

-- an entry enters a round of this kind on the communicator c: an agreement, or else a shrink
abbrev pub enters_round : Bool → ℕ → Entry → Bool
enters_round agrees c (Entered entrance) = is_round_on agrees c entrance.topic
enters_round agrees c _ = false

-- how many rounds of this kind on the communicator c the rank entered
abbrev pub rounds_of : List Entry → Bool → ℕ → ℕ
rounds_of log agrees c = length (filter (enters_round agrees c) log)

-- the round of this kind on a communicator that the rank enters next
abbrev pub next_round : List Entry → Bool → Context → Topic
next_round log agrees context = topic_on agrees context (rounds_of log agrees context.number)

-- the round of this kind on a communicator that the rank entered last, or that of number 0 where it entered none
abbrev pub last_round : List Entry → Bool → Context → Topic
last_round log agrees context = topic_on agrees context (rounds_of log agrees context.number - 1)

-- the rank entered a round of this kind on a communicator, and didn't adopt its decision yet
abbrev pub is_in_round : List Entry → Bool → Context → Bool
is_in_round log agrees context = has_entered log (last_round log agrees context) && not (has_adopted log (last_round log agrees context))

-- an entry enters an agreement on the communicator c
abbrev pub enters_agreement : ℕ → Entry → Bool
enters_agreement = enters_round true

-- how many agreements on the communicator c the rank entered
abbrev pub agreements : List Entry → ℕ → ℕ
agreements log c = rounds_of log true c

-- the agreement on a communicator that the rank enters next
abbrev pub next_agreement : List Entry → Context → Topic
next_agreement log context = next_round log true context

-- the agreement on a communicator that the rank entered last, or that of number 0 where it entered none
abbrev pub last_agreement : List Entry → Context → Topic
last_agreement log context = last_round log true context

-- the rank entered an agreement on a communicator, and didn't adopt its decision yet
abbrev pub is_agreeing : List Entry → Context → Bool
is_agreeing log context = is_in_round log true context

-- how many shrinks of the communicator c the rank entered
abbrev pub shrinks : List Entry → ℕ → ℕ
shrinks log c = rounds_of log false c

-- the shrink of a communicator that the rank enters next
abbrev pub next_shrink : List Entry → Context → Topic
next_shrink log context = next_round log false context

-- the shrink of a communicator that the rank entered last, or that of number 0 where it entered none
abbrev pub last_shrink : List Entry → Context → Topic
last_shrink log context = last_round log false context

-- the rank entered a shrink of a communicator, and didn't adopt its decision yet
abbrev pub is_shrinking : List Entry → Context → Bool
is_shrinking log context = is_in_round log false context

-- with what the member r is listed, if it is: its own first entrance, or that of the first `Enter` taken from it
abbrev pub listed_of : ℕ → List Entry → Topic → ℕ → Option Contribution
listed_of me log topic r = if r == me then first_given (entry_of topic) log else first_given (heard_of topic r) log

-- r is in the union of the listed sets and of what is known now
abbrev pub is_out : ℕ → List ℕ → List Entry → Topic → ℕ → Bool
is_out me group log topic r = is_gone log r || list_any (λ m. in_entry (listed_of me log topic m) r) group

-- there is a proposal: each member is listed or out
abbrev pub has_proposal : ℕ → List ℕ → List Entry → Topic → Bool
has_proposal me group log topic = list_all (λ m. is_some (listed_of me log topic m) || is_out me group log topic m) group

-- the members of the communicator that a topic is about
abbrev pub deciders : ℕ → List Entry → Topic → List ℕ
deciders n log topic = members_of n log topic.context.number

-- what a rank that entered a topic proposes
pub record IsProposal (n me : ℕ) (log : List Entry) (topic : Topic) (d : Decision) : Type 0 where
  pub entered : has_entered log topic ≡ true
  pub complete : has_proposal me (deciders n log topic) log topic ≡ true
  pub about : d.topic ≡ topic
  pub old_group : d.old ≡ deciders n log topic
  pub entries : (r : ℕ) → r < 8 → slice_get d.entries r ≡ Some (if is_member (deciders n log topic) r then listed_of me log topic r else None)
  pub excluded : (r : ℕ) → r < 8 → has d.excluded r ≡ (is_member (deciders n log topic) r && is_out me (deciders n log topic) log topic r)
  pub fresh : d.fresh ≡ excluding (deciders n log topic) (is_out me (deciders n log topic) log topic)

-- two contributions are there, and aren't the same
abbrev pub differ : Option Contribution → Option Contribution → Bool
differ (Some one) (Some other) = not (is_contribution one other)
differ _ _ = false

-- a decision lists a rank with another contribution than that with which this rank lists it
abbrev pub contradicts : ℕ → List Entry → Topic → Decision → Bool
contradicts me log topic d = list_any (λ r. differ (entry_at d.entries r) (listed_of me log topic r)) (numbers_from 0 8)

-- A decision is one for the rank `me`, with this group and log, to adopt on a topic. It is about this topic and group, and
-- its new group has this rank. Where it lists this rank, or one whose `Enter` this rank took, it does so with what this tells.
pub record IsOwnAffair (me : ℕ) (group : List ℕ) (log : List Entry) (topic : Topic) (d : Decision) : Type 0 where
  pub about : d.topic ≡ topic
  pub old_group : d.old ≡ group
  pub keeps_me : is_member d.fresh me ≡ true
  pub agrees : (r : ℕ) (one other : Contribution) → r < 8 → entry_at d.entries r ≡ Some one → listed_of me log topic r ≡ Some other → one ≡ other

-- the test of that rule: the decision isn't one to adopt on the topic
abbrev pub is_foreign : ℕ → List ℕ → List Entry → Topic → Decision → Bool
is_foreign me group log topic d = not (is_topic d.topic topic) || (not (pointwise nat_eq d.old group) || (not (is_member d.fresh me) || contradicts me log topic d))

-- what a rank that entered a topic proposes: a decision exactly where each member is listed or excluded
abbrev pub Proposes : State → Topic → Option Decision → Type 0
Proposes rank topic found = MatchOption found (has_proposal rank.me (deciders rank.ranks rank.log topic) rank.log topic ≡ false) (IsProposal rank.ranks rank.me rank.log topic)
