-- What sends, receives, their tests and cancels by C do (MPI 4.0, 3.7 and 3.8.4).
use Rattle.std.specs.Prelude.{◌≡◌, ℕ, ◌≤◌, ◌⊎◌, ⊤, false, List, length, min, Option, if◌then◌else◌}
use Rattle.ulfm_base.specs.declared.pattern.Pattern.{Pattern}
use Rattle.ulfm_base.specs.declared.tag.Tag.{Tag}
use Rattle.ulfm_c.specs.Calls.{AreKept, Checked, CommCall, Refused, TagCall, source_named}
use Rattle.ulfm_c.specs.Told.{Tells, TellsCancel}
use Rattle.ulfm_c.specs.declared.c_status.CStatus.{CStatus}
use Rattle.ulfm_match.specs.History.{count_before}
use Rattle.ulfm_match.specs.Pairing.{Pairing, LawfulPairing}
use Rattle.ulfm_base.specs.declared.request_id.RequestId.{RequestId}
use Rattle.ulfm_c.specs.View.{ProcessView, with_rank}
use Rattle.ulfm_rank.specs.Answer.{IsRequest, IsTestAnswer, is_release}
use Rattle.ulfm_rank.specs.Calls.{Posts, Sends}
use Rattle.ulfm_rank.specs.Cancel.{IsCancelAnswer, cancelling}
use Rattle.ulfm_rank.specs.Checks.{IsTestRefusal, receive_checks, send_checks}
use Rattle.ulfm_log.specs.Facts.{is_stopped}
use Rattle.ulfm_rank.specs.History.{history_of}
use Rattle.ulfm_log.specs.State.{logged}
use Rattle.ulfm_log.specs.declared.entry.Cancel.{Cancel}
use Rattle.ulfm_log.specs.declared.entry.Comm.{Comm}
use Rattle.ulfm_log.specs.declared.entry.Entry.TheVariants.{Released}
use Rattle.ulfm_log.specs.declared.entry.TestAnswer.{TestAnswer}

-- a letter is sent to a position, past 255 as 255; the process is with its rank as it was
abbrev pub SendCall : ProcessView → ProcessView → ℕ → ℕ → ℕ → List ℕ → ℕ → Type 0
SendCall old new comm dest tag body code = CommCall old new comm code ⊤ (λ c.
    ((code ≡ 3) × (32768 ≤ tag) × (new ≡ old))
    ⊎ ((t : Tag) × (t.number ≡ tag)
    × Checked old new code ⊤ (send_checks old.rank c.context.number (min dest 255) (length body))
    (Sends old.rank c (min dest 255) t body new.rank × (new ≡ with_rank old new.rank))))

-- a receive is posted, and its number told: a request has it, and none had it before
pub record Receives (old new : ProcessView) (c : Comm) (source : Option ℕ) (tag : Option Tag) (room request : ℕ) : Type 0 where
  pub posts : Posts old.rank c source tag room new.rank
  pub number : request ≡ count_before (history_of old.rank.log) (length (history_of old.rank.log))
  pub stands : (i : ℕ) × (pattern : Pattern) × IsRequest new.rank.log request i pattern
  pub only : new ≡ with_rank old new.rank

-- a receive from a position or any, with a tag or any
abbrev pub ReceiveCall : ProcessView → ProcessView → ℕ → ℕ → ℕ → ℕ → ℕ → ℕ → ℕ → Type 0
ReceiveCall old new comm source tag room before request code = CommCall old new comm code (request ≡ before) (λ c.
    TagCall old new tag code (request ≡ before) (λ t.
    Checked old new code (request ≡ before) (receive_checks old.rank c.context.number (source_named source))
    (Receives old new c (source_named source) t (min room 65535) request)))

-- there is such a request at a rank that runs, and a lawful pairing of its history
pub record IsAsked (old : ProcessView) (id : ℕ) : Type 0 where
  pub running : is_stopped old.rank.log ≡ false
  pub request : (i : ℕ) × (pattern : Pattern) × IsRequest old.rank.log id i pattern
  pub pairing : (pairing : Pairing) × LawfulPairing (history_of old.rank.log) pairing

-- the process after a test with this answer
abbrev pub after_test : ProcessView → RequestId → TestAnswer → ProcessView
after_test old id answer = if is_release answer then with_rank old (logged old.rank (Released id answer)) else old

-- a test has this answer
pub record Tests (old new : ProcessView) (id : RequestId) (answer : TestAnswer) : Type 0 where
  pub asked : IsAsked old id.number
  pub answers : IsTestAnswer old.rank.ranks old.rank.log id.number answer
  pub only : new ≡ after_test old id answer

-- a test of a request tells its answer, or is refused
abbrev pub TestCall : ProcessView → ProcessView → ℕ → CStatus → CStatus → List ℕ → List ℕ → ℕ → Type 0
TestCall old new request before status room body code =
    ((answer : TestAnswer) × Tells answer code before status room body × Tests old new (record { number = request }) answer)
    ⊎ Refused old new code (AreKept before status room body) (IsTestRefusal old.rank.log request)

-- a cancel has this answer
pub record Cancels (old new : ProcessView) (id : RequestId) (answer : Cancel) : Type 0 where
  pub asked : IsAsked old id.number
  pub answers : IsCancelAnswer old.rank.ranks old.rank.log id.number answer
  pub only : new ≡ with_rank old (logged old.rank (cancelling id answer))

-- a cancel of a request tells its answer, or is refused
abbrev pub CancelCall : ProcessView → ProcessView → ℕ → CStatus → CStatus → List ℕ → List ℕ → ℕ → Type 0
CancelCall old new request before status room body code =
    ((answer : Cancel) × TellsCancel answer code before status room body × Cancels old new (record { number = request }) answer)
    ⊎ Refused old new code (AreKept before status room body) (IsTestRefusal old.rank.log request)
