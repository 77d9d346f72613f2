-- What a listing of ranks has of a log.
use Rattle.std.specs.Prelude.{◌≡◌, ℕ, List, ◌==◌, ◌<◌, Option, Some, None, if◌then◌else◌}
use Rattle.ulfm_base.specs.declared.contribution.Contribution.{Contribution}
use Rattle.ulfm_base.specs.declared.topic.Topic.{Topic}
use Rattle.ulfm_base.specs.declared.entrance.Entrance.{Entrance}
use Rattle.ulfm_base.specs.declared.rank.WorldRank.{WorldRank}
use Rattle.ulfm_base.specs.Decision.{entry_at}
use Rattle.ulfm_log.specs.declared.entry.Entry.{Entry}
use Rattle.ulfm_log.specs.Proposal.{brought_to, entry_of, heard_of, listed_of}

-- this is what the rank `me` lists the ranks with in the decision on a topic
abbrev pub HasEntries : ℕ → List Entry → Topic → List (Option Contribution) → Type 0
HasEntries me log topic entries = (r : ℕ) → r < 8 → entry_at entries r ≡ listed_of me log topic r

-- what an entrance of a rank, where there is one, gives for r in the decision on a topic
abbrev pub given_by : Topic → ℕ → Option (WorldRank × Entrance) → Option Contribution
given_by topic r None = None
given_by topic r (Some (rank, entrance)) = if rank.number == r then brought_to topic entrance else None

-- what an entry of the log of the rank `me` tells of the rank r in the decision on a topic
abbrev pub told_of : ℕ → Topic → ℕ → Entry → Option Contribution
told_of me topic r e = if r == me then entry_of topic e else heard_of topic r e
