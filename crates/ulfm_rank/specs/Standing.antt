-- What the receives and messages that aren't released stand at: what the matcher and the table have of a log.
use Rattle.std.specs.Prelude.{◌≡◌, ℕ, Bool, true, false, ◌<◌, List, length, Option, Some}
use Rattle.ulfm_base.specs.declared.pattern.Pattern.{Pattern}
use Rattle.ulfm_base.specs.declared.pattern.Source.{Source}
use Rattle.ulfm_base.specs.declared.pattern.Source.TheVariants.{One, Any}
use Rattle.ulfm_base.specs.declared.error.CallError.TheVariants.{ProcFailed, Revoked}
use Rattle.ulfm_base.specs.Group.{is_member}
use Rattle.ulfm_base.specs.RankSet.{has}
use Rattle.ulfm_match.specs.History.{MatchEvent, PostAt, count_before}
use Rattle.ulfm_match.specs.Pairing.{Pairing, IsWaiting}
use Rattle.ulfm_match.specs.State.{Matching, Tracks}
use Rattle.ulfm_log.specs.declared.entry.Entry.{Entry}
use Rattle.ulfm_rank.specs.declared.request.Fate.{Fate}
use Rattle.ulfm_rank.specs.declared.request.Fate.TheVariants.{Waiting, Paired, Found, Failed, Cleared}
use Rattle.ulfm_rank.specs.declared.request.Request.{Request}
use Rattle.ulfm_rank.specs.Answer.{Got, IsOver}
use Rattle.ulfm_log.specs.Communicators.{group_of}
use Rattle.ulfm_log.specs.Facts.{is_released, is_probed}
use Rattle.ulfm_rank.specs.History.{history_of}

-- each rank of the source is a member
abbrev pub IsSourceIn : List ℕ → Source → Type 0
IsSourceIn group (One rank) = is_member group rank.number ≡ true
IsSourceIn group (Any members) = (r : ℕ) → has members r ≡ true → is_member group r ≡ true

-- the communicator was made, and its group has the sources
pub record IsOfGroup (n : ℕ) (log : List Entry) (pattern : Pattern) : Type 0 where
  pub group : List ℕ
  pub made : group_of n log pattern.context.number ≡ Some group
  pub source : IsSourceIn group pattern.source

-- it is the letter of a message
abbrev pub is_found : Fate → Bool
is_found (Found letter) = true
is_found _ = false

-- what became of the receive of this pattern at place i, which is that of a message where its letter was found
abbrev pub Became : List MatchEvent → Pairing → ℕ → Pattern → Fate → Type 0
Became history pairing i pattern Waiting = IsWaiting history pairing i pattern (length history)
Became history pairing i pattern (Paired letter) = Got history pairing i letter
Became history pairing i pattern (Found letter) = Got history pairing i letter
Became history pairing i pattern Failed = IsOver history pairing i pattern ProcFailed
Became history pairing i pattern Cleared = IsOver history pairing i pattern Revoked

-- the request of this number is a receive of the history, and its fate is what became of it
pub record IsStanding (history : List MatchEvent) (pairing : Pairing) (id : ℕ) (request : Request) : Type 0 where
  pub place : ℕ
  pub posted : PostAt history place request.pattern
  pub numbered : count_before history place ≡ id
  pub fate : Became history pairing place request.pattern request.fate

-- the table has the receives that aren't released, those of messages too; `find` looks a number up
pub record IsTable (n : ℕ) (log : List Entry) (history : List MatchEvent) (pairing : Pairing) (find : ℕ → Option Request) : Type 0 where
  pub standing : (id : ℕ) (request : Request) → find id ≡ Some request → IsStanding history pairing id request
  pub of_group : (id : ℕ) (request : Request) → find id ≡ Some request → IsOfGroup n log request.pattern
  pub unreleased : (id : ℕ) (request : Request) → find id ≡ Some request → is_released log id ≡ false
  pub complete : (i : ℕ) (pattern : Pattern) → PostAt history i pattern → is_released log (count_before history i) ≡ false → (request : Request) × (find (count_before history i) ≡ Some request)
  pub released_below : (id : ℕ) → is_released log id ≡ true → id < count_before history (length history)
  pub kind : (id : ℕ) (request : Request) → find id ≡ Some request → is_found request.fate ≡ is_probed log id
  pub probed_below : (id : ℕ) → is_probed log id ≡ true → id < count_before history (length history)

-- some lawful pairing of the log's history leaves what the matcher has, and the table is in step with it
pub record IsInStep (n : ℕ) (log : List Entry) (matcher : Matching) (find : ℕ → Option Request) : Type 0 where
  pub pairing : Pairing
  pub tracks : Tracks (history_of log) pairing matcher
  pub table : IsTable n log (history_of log) pairing find
