-- Messages, which are letters that probes found: what a probe finds, and what the receive of a message answers (MPI 4.0,
-- 3.8.2 and 3.8.3).
use Rattle.std.specs.Prelude.{◌≡◌, ℕ, Bool, true, false, ⊤, List, [], ◌∷◌, ◌++◌, ◌⊎◌, length, Option, Some, None}
use Rattle.ulfm_base.specs.declared.envelope.Letter.{Letter}
use Rattle.ulfm_base.specs.declared.error.CallError.{CallError}
use Rattle.ulfm_base.specs.declared.error.CallError.TheVariants.{ProcFailed, Truncated, NoRequest, Stopped, OutOfMemory}
use Rattle.ulfm_base.specs.declared.pattern.Pattern.{Pattern}
use Rattle.ulfm_base.specs.declared.tag.Tag.{Tag}
use Rattle.ulfm_base.specs.Group.{rank_in}
use Rattle.ulfm_match.specs.History.{MatchEvent, Post, PostAt, count_before}
use Rattle.ulfm_match.specs.Pairing.{Pairing, LawfulPairing}
use Rattle.ulfm_log.specs.declared.entry.Comm.{Comm}
use Rattle.ulfm_log.specs.declared.entry.Entry.{Entry}
use Rattle.ulfm_log.specs.declared.entry.Entry.TheVariants.{Probed as ProbedEntry}
use Rattle.ulfm_log.specs.declared.entry.Probed.{Probed}
use Rattle.ulfm_log.specs.declared.entry.Probed.TheVariants.{Found, Nothing}
use Rattle.ulfm_log.specs.declared.entry.Status.{Status}
use Rattle.ulfm_log.specs.declared.entry.TestAnswer.{TestAnswer}
use Rattle.ulfm_log.specs.declared.entry.TestAnswer.TheVariants.{Done, Over}
use Rattle.ulfm_log.specs.declared.message.MessageId.{MessageId}
use Rattle.ulfm_rank.specs.Answer.{Got, IsUnpaired, IsAnswerBy}
use Rattle.ulfm_rank.specs.Calls.{IsReceive}
use Rattle.ulfm_rank.specs.Checks.{Fails, Passes, receive_checks, group_at}
use Rattle.ulfm_log.specs.Facts.{is_released, is_probed, is_stopped}
use Rattle.ulfm_rank.specs.History.{history_of, names_gone}
use Rattle.ulfm_log.specs.State.{State, logged}

-- the history that goes on with a receive of this pattern
abbrev pub posting : List Entry → Pattern → List MatchEvent
posting log pattern = history_of log ++ Post pattern ∷ []

-- A receive of this pattern that is posted now gets this letter: it does so by each lawful pairing, and there is one.
pub record WouldGet (log : List Entry) (pattern : Pattern) (letter : Letter) : Type 0 where
  pub pairing : Pairing
  pub lawful : LawfulPairing (posting log pattern) pairing
  pub each : (other : Pairing) → LawfulPairing (posting log pattern) other → Got (posting log pattern) other (length (history_of log)) letter

-- a receive of this pattern that is posted now gets none
pub record WouldWait (log : List Entry) (pattern : Pattern) : Type 0 where
  pub pairing : Pairing
  pub lawful : LawfulPairing (posting log pattern) pairing
  pub each : (other : Pairing) → LawfulPairing (posting log pattern) other → IsUnpaired other (length (history_of log))

-- a status tells of this letter: its sender as a rank of the group, its tag and its length
pub record TellsOf (group : List ℕ) (letter : Letter) (status : Status) : Type 0 where
  pub sender : rank_in group letter.envelope.source.number ≡ Some status.source
  pub has_tag : status.tag ≡ letter.envelope.tag
  pub has_length : status.length ≡ length letter.body

-- A probe finds a letter: the one that a receive of this source and tag gets where it is posted now. The letter becomes
-- the message of this number.
pub record IsProbed (old : State) (comm : Comm) (source : Option ℕ) (tag : Option Tag) (id : MessageId) (status : Status) (new : State) : Type 0 where
  pub pattern : Pattern
  pub receive : IsReceive old comm source tag 1024 pattern
  pub letter : Letter
  pub gets : WouldGet old.log pattern letter
  pub numbered : id.number ≡ count_before (history_of old.log) (length (history_of old.log))
  pub told : TellsOf (group_at old comm.context.number) letter status
  pub only : new ≡ logged old (ProbedEntry id pattern)

-- A probe finds none: a receive that is posted now gets none. Its source names a rank that is known to have failed, or
-- doesn't.
pub record FindsNone (rank : State) (comm : Comm) (source : Option ℕ) (tag : Option Tag) (gone : Bool) : Type 0 where
  pub pattern : Pattern
  pub receive : IsReceive rank comm source tag 1024 pattern
  pub waits : WouldWait rank.log pattern
  pub names : names_gone rank.log pattern.source ≡ gone

-- what a probe answers
abbrev pub IsProbeAnswer : State → Comm → Option ℕ → Option Tag → State → Probed → Type 0
IsProbeAnswer old comm source tag new (Found id status) = IsProbed old comm source tag id status new
IsProbeAnswer old comm source tag new Nothing = FindsNone old comm source tag false × (new ≡ old)

-- why a probe is refused that passes the checks of a receive
abbrev pub IsRefusalAfterChecks : State → Comm → Option ℕ → Option Tag → CallError → Type 0
IsRefusalAfterChecks rank comm source tag ProcFailed = FindsNone rank comm source tag true
IsRefusalAfterChecks rank comm source tag OutOfMemory = (pattern : Pattern) × IsReceive rank comm source tag 1024 pattern × (letter : Letter) × WouldGet rank.log pattern letter
IsRefusalAfterChecks rank comm source tag _ = ⊥

-- why a probe is refused
abbrev pub IsProbeRefusal : State → Comm → Option ℕ → Option Tag → CallError → Type 0
IsProbeRefusal rank comm source tag e = Fails (receive_checks rank comm.context.number source) e ⊎ (Passes (receive_checks rank comm.context.number source) × IsRefusalAfterChecks rank comm source tag e)

-- A look finds a letter: the one that a receive of this source and tag gets where it is posted now.
pub record IsSeen (rank : State) (comm : Comm) (source : Option ℕ) (tag : Option Tag) (status : Status) : Type 0 where
  pub pattern : Pattern
  pub receive : IsReceive rank comm source tag 1024 pattern
  pub letter : Letter
  pub gets : WouldGet rank.log pattern letter
  pub told : TellsOf (group_at rank comm.context.number) letter status

-- what a look answers
abbrev pub IsLookAnswer : State → Comm → Option ℕ → Option Tag → Option Status → Type 0
IsLookAnswer rank comm source tag (Some status) = IsSeen rank comm source tag status
IsLookAnswer rank comm source tag None = FindsNone rank comm source tag false

-- why a look is refused
abbrev pub IsLookRefusal : State → Comm → Option ℕ → Option Tag → CallError → Type 0
IsLookRefusal rank comm source tag e = Fails (receive_checks rank comm.context.number source) e ⊎ (Passes (receive_checks rank comm.context.number source) × (e ≡ ProcFailed) × FindsNone rank comm source tag true)

-- the receive at place i has this pattern and number, is that of a message, and the message isn't released
pub record IsMessage (log : List Entry) (id i : ℕ) (pattern : Pattern) : Type 0 where
  pub posted : PostAt (history_of log) i pattern
  pub numbered : count_before (history_of log) i ≡ id
  pub unreleased : is_released log id ≡ false
  pub found : is_probed log id ≡ true

-- the number that a probe answers, if it finds a letter, is that of a message of the log
abbrev pub HasMessage : List Entry → Probed → Type 0
HasMessage log (Found id status) = (i : ℕ) × (pattern : Pattern) × IsMessage log id.number i pattern
HasMessage log Nothing = ⊤

-- the pattern with this room
abbrev pub with_room : Pattern → ℕ → Pattern
with_room pattern room = record { context = pattern.context; source = pattern.source; tag = pattern.tag; room = room }

-- the answer is a letter, or that it was too long
abbrev pub is_receipt : TestAnswer → Bool
is_receipt (Done status body) = true
is_receipt (Over Truncated) = true
is_receipt _ = false

-- A letter or that it was too long is answered of a message, and each lawful pairing of the log's history gives this
-- answer to a receive with this room.
pub record IsMessageAnswer (n : ℕ) (log : List Entry) (id room : ℕ) (answer : TestAnswer) : Type 0 where
  pub receipt : is_receipt answer ≡ true
  pub each : (i : ℕ) (pattern : Pattern) → IsMessage log id i pattern → (pairing : Pairing) → LawfulPairing (history_of log) pairing → IsAnswerBy n log pairing i (with_room pattern room) answer

-- no message has this number, or it is released
abbrev pub IsNoMessage : List Entry → ℕ → Type 0
IsNoMessage log id = (i : ℕ) (pattern : Pattern) → IsMessage log id i pattern → ⊥

-- why the receive of the message of this number is refused
abbrev pub IsMessageRefusal : List Entry → ℕ → CallError → Type 0
IsMessageRefusal log id Stopped = is_stopped log ≡ true
IsMessageRefusal log id NoRequest = (is_stopped log ≡ false) × IsNoMessage log id
IsMessageRefusal log id _ = ⊥
