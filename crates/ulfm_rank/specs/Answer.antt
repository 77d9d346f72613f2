-- What a test of a request answers (MPI 4.0, 3.2.5 on the status and 3.7.3 on tests; ULFM on what pends and what is over).
use Rattle.std.specs.Prelude.{◌≡◌, ℕ, Bool, true, false, ◌<◌, ◌≤◌, List, length, not, ◌&&◌, nat_lt, Some, slice_get}
use Rattle.ulfm_base.specs.declared.envelope.Letter.{Letter}
use Rattle.ulfm_base.specs.declared.pattern.Pattern.{Pattern}
use Rattle.ulfm_base.specs.Pattern.{is_any}
use Rattle.ulfm_base.specs.declared.error.CallError.{CallError}
use Rattle.ulfm_base.specs.declared.error.CallError.TheVariants.{ProcFailed, Revoked, Truncated}
use Rattle.ulfm_base.specs.Group.{rank_in}
use Rattle.ulfm_match.specs.History.{MatchEvent, End, Clear, PostAt, ComeAt, StandsBetween, count_before}
use Rattle.ulfm_match.specs.Pairing.{Pairing, Pairs, LawfulPairing}
use Rattle.ulfm_log.specs.declared.entry.Entry.{Entry}
use Rattle.ulfm_log.specs.declared.entry.Status.{Status}
use Rattle.ulfm_log.specs.declared.entry.TestAnswer.{TestAnswer}
use Rattle.ulfm_log.specs.declared.entry.TestAnswer.TheVariants.{Done, Over, Pending, NotYet}
use Rattle.ulfm_log.specs.Facts.{is_revoked, is_released, is_probed, acknowledged_of, known_in}
use Rattle.ulfm_rank.specs.History.{history_of}
use Rattle.ulfm_log.specs.Communicators.{members_of}

-- more failures are known in the group of the context c than were acknowledged there
abbrev pub has_unacked : ℕ → List Entry → ℕ → Bool
has_unacked n log c = nat_lt (acknowledged_of log c) (length (known_in log (members_of n log c)))

-- an unpaired receive of this pattern pends: it is of any source, its context isn't revoked, and has a failure that isn't
-- acknowledged
abbrev pub pends : ℕ → List Entry → Pattern → Bool
pends n log pattern =
    is_any pattern.source
    && (not (is_revoked log pattern.context.number)
    && has_unacked n log pattern.context.number)

-- the receive at place i got this letter
pub record Got (history : List MatchEvent) (pairing : Pairing) (i : ℕ) (letter : Letter) : Type 0 where
  pub place : ℕ
  pub pairs : Pairs pairing i place
  pub came : ComeAt history place letter

-- the receive at place i got none
abbrev pub IsUnpaired : Pairing → ℕ → Type 0
IsUnpaired pairing i = (b : ℕ) → Pairs pairing i b → ⊥

-- after place i the first of the two events stands, and the second doesn't stand before it
pub record StandsFirst (history : List MatchEvent) (i : ℕ) (event other : MatchEvent) : Type 0 where
  pub place : ℕ
  pub after : i < place
  pub is : slice_get history place ≡ Some event
  pub first : StandsBetween history other i place → ⊥

-- a receive of this pattern at place i didn't end
pub record IsOpenReceive (history : List MatchEvent) (i : ℕ) (pattern : Pattern) : Type 0 where
  pub not_ended : StandsBetween history (End i) i (length history) → ⊥
  pub not_cleared : StandsBetween history (Clear pattern.context.number) i (length history) → ⊥

-- why the receive at place i is over
abbrev pub IsOver : List MatchEvent → Pairing → ℕ → Pattern → CallError → Type 0
IsOver history pairing i pattern ProcFailed = IsUnpaired pairing i × StandsFirst history i (End i) (Clear pattern.context.number)
IsOver history pairing i pattern Revoked = IsUnpaired pairing i × StandsFirst history i (Clear pattern.context.number) (End i)
IsOver history pairing i pattern Truncated = (letter : Letter) × Got history pairing i letter × (pattern.room < length letter.body)
IsOver history pairing i pattern _ = ⊥

-- a letter that fits the room is answered with its bytes and a status: its sender as a rank of the group, its tag and
-- its length
pub record IsReceived (group : List ℕ) (room : ℕ) (letter : Letter) (status : Status) (bytes : List ℕ) : Type 0 where
  pub fits : length letter.body ≤ room
  pub sender : rank_in group letter.envelope.source.number ≡ Some status.source
  pub has_tag : status.tag ≡ letter.envelope.tag
  pub has_length : status.length ≡ length letter.body
  pub carries : bytes ≡ letter.body

-- the receive of this pattern at place i is done with this status and these bytes: it got a letter that is so answered
pub record IsDone (n : ℕ) (log : List Entry) (pairing : Pairing) (i : ℕ) (pattern : Pattern) (status : Status) (bytes : List ℕ) : Type 0 where
  pub letter : Letter
  pub got : Got (history_of log) pairing i letter
  pub received : IsReceived (members_of n log pattern.context.number) pattern.room letter status bytes

-- the receive of this pattern at place i got no letter and didn't end, and pends or doesn't
pub record IsLeftWaiting (n : ℕ) (log : List Entry) (pairing : Pairing) (i : ℕ) (pattern : Pattern) (pending : Bool) : Type 0 where
  pub unpaired : IsUnpaired pairing i
  pub still_open : IsOpenReceive (history_of log) i pattern
  pub pends : pends n log pattern ≡ pending

-- this is the answer for the receive of this pattern at place i, by this pairing of the log's history
abbrev pub IsAnswerBy : ℕ → List Entry → Pairing → ℕ → Pattern → TestAnswer → Type 0
IsAnswerBy n log pairing i pattern (Done status body) = IsDone n log pairing i pattern status body
IsAnswerBy n log pairing i pattern (Over reason) = IsOver (history_of log) pairing i pattern reason
IsAnswerBy n log pairing i pattern Pending = IsLeftWaiting n log pairing i pattern true
IsAnswerBy n log pairing i pattern NotYet = IsLeftWaiting n log pairing i pattern false

-- the receive at place i has this pattern and number, isn't released, and isn't that of a message
pub record IsRequest (log : List Entry) (id i : ℕ) (pattern : Pattern) : Type 0 where
  pub posted : PostAt (history_of log) i pattern
  pub numbered : count_before (history_of log) i ≡ id
  pub unreleased : is_released log id ≡ false
  pub receive : is_probed log id ≡ false

-- Each lawful pairing of the log's history gives this answer to the request.
abbrev pub IsTestAnswer : ℕ → List Entry → ℕ → TestAnswer → Type 0
IsTestAnswer n log id answer = (i : ℕ) (pattern : Pattern) → IsRequest log id i pattern → (pairing : Pairing) → LawfulPairing (history_of log) pairing → IsAnswerBy n log pairing i pattern answer

-- the answer releases the request
abbrev pub is_release : TestAnswer → Bool
is_release (Done status body) = true
is_release (Over reason) = true
is_release _ = false

-- no receive has this number, or it is released
abbrev pub IsNoRequest : List Entry → ℕ → Type 0
IsNoRequest log id = (i : ℕ) (pattern : Pattern) → IsRequest log id i pattern → ⊥
