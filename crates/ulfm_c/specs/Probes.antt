-- What probes and receives of their messages by C do (MPI 4.0, 3.8.1 to 3.8.3).
use Rattle.std.specs.Prelude.{◌≡◌, ℕ, ◌⊎◌, false, List, length, min, Option}
use Rattle.ulfm_base.specs.declared.error.CallError.{CallError}
use Rattle.ulfm_base.specs.declared.pattern.Pattern.{Pattern}
use Rattle.ulfm_base.specs.declared.tag.Tag.{Tag}
use Rattle.ulfm_c.specs.Calls.{AreKept, CommCall, Refused, TagCall, source_named}
use Rattle.ulfm_c.specs.Told.{Tells, status_of}
use Rattle.ulfm_c.specs.declared.c_status.CStatus.{CStatus}
use Rattle.ulfm_match.specs.Pairing.{Pairing, LawfulPairing}
use Rattle.ulfm_c.specs.View.{ProcessView, with_rank}
use Rattle.ulfm_rank.specs.Checks.{Passes, receive_checks}
use Rattle.ulfm_log.specs.Facts.{is_stopped}
use Rattle.ulfm_rank.specs.History.{history_of}
use Rattle.ulfm_rank.specs.Messages.{FindsNone, IsLookRefusal, IsMessage, IsMessageAnswer, IsMessageRefusal, IsProbeRefusal, IsProbed, IsSeen}
use Rattle.ulfm_log.specs.State.{logged}
use Rattle.ulfm_log.specs.declared.entry.Comm.{Comm}
use Rattle.ulfm_log.specs.declared.entry.Entry.TheVariants.{Received}
use Rattle.ulfm_log.specs.declared.entry.Status.{Status}
use Rattle.ulfm_log.specs.declared.entry.TestAnswer.{TestAnswer}
use Rattle.ulfm_log.specs.declared.message.MessageId.{MessageId}

-- a look finds a letter, which is told
pub record Sees (old : ProcessView) (c : Comm) (source : Option ℕ) (tag : Option Tag) (status : CStatus) : Type 0 where
  pub told : Status
  pub seen : IsSeen old.rank c source tag told
  pub tells : status ≡ status_of told

-- a probe makes a letter a message, which is told with its number
pub record Takes (old new : ProcessView) (c : Comm) (source : Option ℕ) (tag : Option Tag) (message : ℕ) (status : CStatus) : Type 0 where
  pub told : Status
  pub probed : IsProbed old.rank c source tag (record { number = message }) told new.rank
  pub stands : (i : ℕ) × (pattern : Pattern) × IsMessage new.rank.log message i pattern
  pub tells : status ≡ status_of told
  pub only : new ≡ with_rank old new.rank

-- With 0 this is found, with 17 nothing is and nothing changes, else it is refused for this cause. What isn't refused passes the checks.
abbrev pub Finds : ProcessView → ProcessView → Comm → Option ℕ → Option Tag → ℕ → Type 0 → Type 0 → (CallError → Type 0) → Type 0
Finds old new c source tag code kept found why =
    (Passes (receive_checks old.rank c.context.number source)
    × (((code ≡ 0) × found) ⊎ ((code ≡ 17) × FindsNone old.rank c source tag false × (new ≡ old) × kept)))
    ⊎ Refused old new code kept why

-- a probe that changes nothing
abbrev pub LookCall : ProcessView → ProcessView → ℕ → ℕ → ℕ → CStatus → CStatus → ℕ → Type 0
LookCall old new comm source tag before status code = CommCall old new comm code (status ≡ before) (λ c.
    TagCall old new tag code (status ≡ before) (λ t.
    Finds old new c (source_named source) t code (status ≡ before)
    (Sees old c (source_named source) t status × (new ≡ old)) (IsLookRefusal old.rank c (source_named source) t)))

-- a probe that makes what it finds a message
abbrev pub ProbeCall : ProcessView → ProcessView → ℕ → ℕ → ℕ → ℕ → ℕ → CStatus → CStatus → ℕ → Type 0
ProbeCall old new comm source tag at message before status code = CommCall old new comm code (AreKept at message before status) (λ c.
    TagCall old new tag code (AreKept at message before status) (λ t.
    Finds old new c (source_named source) t code (AreKept at message before status)
    (Takes old new c (source_named source) t message status) (IsProbeRefusal old.rank c (source_named source) t)))

-- the receive of a message with so much room has this answer
pub record Receives (old new : ProcessView) (id : MessageId) (room : ℕ) (answer : TestAnswer) : Type 0 where
  pub running : is_stopped old.rank.log ≡ false
  pub message : (i : ℕ) × (pattern : Pattern) × IsMessage old.rank.log id.number i pattern
  pub pairing : (pairing : Pairing) × LawfulPairing (history_of old.rank.log) pairing
  pub answers : IsMessageAnswer old.rank.ranks old.rank.log id.number room answer
  pub only : new ≡ with_rank old (logged old.rank (Received id answer))

-- the receive of a message tells its answer, or is refused
abbrev pub MessageCall : ProcessView → ProcessView → ℕ → CStatus → CStatus → List ℕ → List ℕ → ℕ → Type 0
MessageCall old new message before status room body code =
    ((answer : TestAnswer) × Tells answer code before status room body × Receives old new (record { number = message }) (min (length room) 65535) answer)
    ⊎ Refused old new code (AreKept before status room body) (IsMessageRefusal old.rank.log message)
