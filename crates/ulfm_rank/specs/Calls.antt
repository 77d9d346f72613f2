-- What accepted calls add to the log.
use Rattle.std.specs.Prelude.{◌≡◌, ℕ, ⊤, List, Option, Some, None, slice_get, nat_lt, if◌then◌else◌}
use Rattle.ulfm_base.specs.declared.envelope.Letter.{Letter}
use Rattle.ulfm_base.specs.declared.item.Item.{Item}
use Rattle.ulfm_base.specs.declared.item.Item.TheVariants.{Letter as Mail}
use Rattle.ulfm_base.specs.declared.pattern.Pattern.{Pattern}
use Rattle.ulfm_base.specs.declared.pattern.Source.{Source}
use Rattle.ulfm_base.specs.declared.pattern.Source.TheVariants.{One, Any}
use Rattle.ulfm_base.specs.declared.rank.WorldRank.{WorldRank}
use Rattle.ulfm_base.specs.declared.tag.Tag.{Tag}
use Rattle.ulfm_base.specs.declared.topic.Topic.{Topic}
use Rattle.ulfm_base.specs.declared.entrance.Entrance.{Entrance}
use Rattle.ulfm_base.specs.declared.context.Context.{Context}
use Rattle.ulfm_base.specs.Group.{is_member}
use Rattle.ulfm_base.specs.RankSet.{has}
use Rattle.ulfm_log.specs.declared.entry.Comm.{Comm}
use Rattle.ulfm_log.specs.declared.entry.Entry.TheVariants.{Sent, Posted, Acknowledged, Revoked, Entered, Stopped}
use Rattle.ulfm_log.specs.Facts.{is_revoked, is_stopped, acknowledged_of, Knows}
use Rattle.ulfm_log.specs.State.{State, logged}
use Rattle.ulfm_rank.specs.Checks.{group_at}

-- a letter with this tag and body is accepted for the member at position dest
pub record Sends (old : State) (comm : Comm) (dest : ℕ) (tag : Tag) (body : List ℕ) (new : State) : Type 0 where
  pub to : WorldRank
  pub letter : Letter
  pub named : slice_get (group_at old comm.context.number) dest ≡ Some to.number
  pub context : letter.envelope.context ≡ comm.context
  pub source : letter.envelope.source.number ≡ old.me
  pub has_tag : letter.envelope.tag ≡ tag
  pub carries : letter.body ≡ body
  pub only : new ≡ logged old (Sent to letter)

-- the sources that a receive asks for: the named member, or any member of the group
abbrev pub IsSourceOf : List ℕ → Option ℕ → Source → Type 0
IsSourceOf group (Some position) (One rank) = slice_get group position ≡ Some rank.number
IsSourceOf group None (Any members) = (r : ℕ) → has members r ≡ is_member group r
IsSourceOf group _ _ = ⊥

-- a pattern asks for letters of this communicator, source, tag and room
pub record IsReceive (rank : State) (comm : Comm) (source : Option ℕ) (tag : Option Tag) (room : ℕ) (pattern : Pattern) : Type 0 where
  pub context : pattern.context ≡ comm.context
  pub asks_for : IsSourceOf (group_at rank comm.context.number) source pattern.source
  pub has_tag : pattern.tag ≡ tag
  pub has_room : pattern.room ≡ room

-- a receive of this source, tag and room is posted
pub record Posts (old : State) (comm : Comm) (source : Option ℕ) (tag : Option Tag) (room : ℕ) (new : State) : Type 0 where
  pub pattern : Pattern
  pub receive : IsReceive old comm source tag room pattern
  pub only : new ≡ logged old (Posted pattern)

-- the rank after an acknowledgement that answers this total: an entry is added where it rose
abbrev pub acknowledging : State → Context → ℕ → State
acknowledging old context total = if nat_lt (acknowledged_of old.log context.number) total then logged old (Acknowledged context total) else old

-- the rank after its own revocation of a context, which counts the first time
abbrev pub revoking : State → Context → State
revoking old context = if is_revoked old.log context.number then old else logged old (Revoked context)

-- a topic is entered with the failures that are known and this flag
pub record Enters (old : State) (topic : Topic) (flag : Option ℕ) (new : State) : Type 0 where
  pub entrance : Entrance
  pub about : entrance.topic ≡ topic
  pub knows : Knows old.log entrance.contribution.known
  pub brings : entrance.contribution.flag ≡ flag
  pub only : new ≡ logged old (Entered entrance)

-- the rank after its stop
abbrev pub stopping : State → State
stopping old = if is_stopped old.log then old else logged old Stopped

-- a letter's source is the rank that it came from
abbrev pub IsFrom : WorldRank → Item → Type 0
IsFrom source (Mail letter) = letter.envelope.source ≡ source
IsFrom source _ = ⊤
