-- What an answer of a poll says, and what the log has of it: one walk over the steps and their answers.
use Rattle.std.proofs.Common.{◌≡◌, ℕ, Bool, true, false, cond, List, refl, inl, inr, ◌⊎◌, Option}
use Rattle.ulfm_base.specs.declared.error.CallError.{CallError}
use Rattle.ulfm_base.specs.declared.tag.Tag.{Tag}
use Rattle.ulfm_log.specs.declared.entry.Entry.TheVariants.{Sent as SentEntry, Posted as PostedEntry, Acknowledged, Revoked as RevokedEntry, Duplicated, Entered, Adopted, Stopped as StopEntry, Took, Probed, Released, Received, Cancelled as CancelEntry}
use Rattle.ulfm_log.specs.Communicators.{dups_of}
use Rattle.ulfm_log.specs.declared.entry.Status.{Status}
use Rattle.ulfm_log.specs.declared.entry.TestAnswer.TheVariants.{Done as TestDone, Over as TestOver}
use Rattle.ulfm_job.specs.declared.step.Step.TheVariants.{Send, Recv, Wait, Probe, Mrecv, Cancel, Failed, Ack, Revoke, Dup, Shrink, Agree, Note, Stop}
use Rattle.ulfm_script.proofs.Common.{Context, Entry, is_stop_step, logged, State, Step, StepAnswer, StepReport, comm_of, Tests, Receives, Cancels, AnswersStep, AnswersRecv, AnswersProbe, MessageId, ⊤, nat_lt, RequestId, is_stop, is_stopped, is_revoked, acknowledged_of, Sends}
use Rattle.ulfm_answer.specs.declared.answer.StepAnswer.TheVariants.{Sent, Posted, Done, Over, Pending, Found, Cancelled, Ranks, Acked, Revoked, Made, Noted, Stopped, Refused}

-- an answer tells of no letter, and of no receive that was posted or released
abbrev pub IsSilent : StepAnswer → Type 0
IsSilent Sent = ⊥
IsSilent (Posted id) = ⊥
IsSilent (Done status body) = ⊥
IsSilent (Over reason) = ⊥
IsSilent (Found id status) = ⊥
IsSilent Cancelled = ⊥
IsSilent _ = ⊤

-- an entry sends, posts, finds, releases and takes nothing
abbrev pub IsIdle : Entry → Type 0
IsIdle (SentEntry to letter) = ⊥
IsIdle (PostedEntry pattern) = ⊥
IsIdle (Probed id pattern) = ⊥
IsIdle (Released id answer) = ⊥
IsIdle (Received id answer) = ⊥
IsIdle (CancelEntry id) = ⊥
IsIdle (Took source item) = ⊥
IsIdle _ = ⊤

-- an entry adopts no decision and enters no topic
abbrev pub IsApart : Entry → Type 0
IsApart (Adopted d) = ⊥
IsApart (Entered entrance) = ⊥
IsApart _ = ⊤

-- an entry of a step's silent answer, a stop where the step is
pub record IsIdleOf (asked : Step) (e : Entry) : Type 0 where
  pub idle : IsIdle e
  pub apart : IsApart e
  pub stop : is_stop e ≡ is_stop_step asked

-- nothing is added, by a step that is no stop or a rank that stopped; or one such entry
abbrev pub AddsIdle : State → Step → State → Type 0
AddsIdle old asked new = ((new ≡ old) × ((is_stop_step asked ≡ false) ⊎ (is_stopped old.log ≡ true))) ⊎ ((e : Entry) × IsIdleOf asked e × (new ≡ logged old e))

-- an entry is added where a test says so, or where it doesn't
idle_where : (b : Bool) (r : State) (asked : Step) (e : Entry) (new : State) → IsIdleOf asked e → is_stop_step asked ≡ false → new ≡ cond b (logged r e) r → AddsIdle r asked new
idle_where true r asked e new is go only = inr (e, is, only)
idle_where false r asked e new is go only = inl (only, inl go)

idle_unless : (b : Bool) (r : State) (asked : Step) (e : Entry) (new : State) → IsIdleOf asked e → (b ≡ true → (is_stop_step asked ≡ false) ⊎ (is_stopped r.log ≡ true)) → new ≡ cond b r (logged r e) → AddsIdle r asked new
idle_unless true r asked e new is free only = inl (only, free refl)
idle_unless false r asked e new is free only = inr (e, is, only)

-- what holds of a letter that is sent, of a receive that is posted, of a message that is found, of a request or a message that is
-- released, of a receive that is cancelled, and of each silent answer with its idle entry, holds of each answer of a poll
module _ (done : List StepReport) (r new : State) (P : Step → StepAnswer → Type 0)
    (sends : (to : ℕ) (tag : Tag) (body : List ℕ) (comm : Context) → Sends r (comm_of comm) to tag body new → P (Send to tag body comm) Sent)
    (posts : (source : Option ℕ) (tag : Option Tag) (room : ℕ) (comm : Context) (id : RequestId) → AnswersRecv r source tag room comm (Posted id) new → P (Recv source tag room comm) (Posted id))
    (gives : (req : ℕ) (status : Status) (body : List ℕ) → Tests done r req (TestDone status body) new → P (Wait req) (Done status body))
    (ends : (req : ℕ) (reason : CallError) → Tests done r req (TestOver reason) new → P (Wait req) (Over reason))
    (finds : (source : Option ℕ) (tag : Option Tag) (comm : Context) (id : MessageId) (status : Status) → AnswersProbe r source tag comm (Found id status) new → P (Probe source tag comm) (Found id status))
    (receives : (req room : ℕ) (status : Status) (body : List ℕ) → Receives done r req room (TestDone status body) new → P (Mrecv req room) (Done status body))
    (cuts : (req room : ℕ) (reason : CallError) → Receives done r req room (TestOver reason) new → P (Mrecv req room) (Over reason))
    (cancels : (req : ℕ) → Cancels done r req new → P (Cancel req) Cancelled)
    (gives_late : (req : ℕ) (status : Status) (body : List ℕ) → Tests done r req (TestDone status body) new → P (Cancel req) (Done status body))
    (ends_late : (req : ℕ) (reason : CallError) → Tests done r req (TestOver reason) new → P (Cancel req) (Over reason))
    (idly : (asked : Step) (answer : StepAnswer) → IsSilent answer → AddsIdle r asked new → P asked answer) where
  same : (asked : Step) (answer : StepAnswer) → IsSilent answer → is_stop_step asked ≡ false → new ≡ r → P asked answer
  same asked answer silent go only = idly asked answer silent (inl (only, inl go))

  pub each_answer : (asked : Step) (answer : StepAnswer) → AnswersStep done r asked answer new → P asked answer
  each_answer (Send to tag body comm) Sent h = sends to tag body comm h.1
  each_answer (Send to tag body comm) (Refused e) h = same (Send to tag body comm) (Refused e) tt refl h.1
  each_answer (Recv source tag room comm) (Posted id) h = posts source tag room comm id h
  each_answer (Recv source tag room comm) (Refused e) h = same (Recv source tag room comm) (Refused e) tt refl h.1
  each_answer (Wait req) (Done status body) h = gives req status body h
  each_answer (Wait req) (Over reason) h = ends req reason h
  each_answer (Wait req) Pending h = same (Wait req) Pending tt refl h.only
  each_answer (Wait req) (Refused e) h = same (Wait req) (Refused e) tt refl h.2
  each_answer (Probe source tag comm) (Found id status) h = finds source tag comm id status h
  each_answer (Probe source tag comm) (Refused e) h = same (Probe source tag comm) (Refused e) tt refl h.1
  each_answer (Mrecv req room) (Done status body) h = receives req room status body h
  each_answer (Mrecv req room) (Over reason) h = cuts req room reason h
  each_answer (Mrecv req room) (Refused e) h = same (Mrecv req room) (Refused e) tt refl h.2
  each_answer (Cancel req) Cancelled h = cancels req h
  each_answer (Cancel req) (Done status body) h = gives_late req status body h
  each_answer (Cancel req) (Over reason) h = ends_late req reason h
  each_answer (Cancel req) (Refused e) h = same (Cancel req) (Refused e) tt refl h.2
  each_answer (Failed comm) (Ranks ranks) h = same (Failed comm) (Ranks ranks) tt refl h.2
  each_answer (Failed comm) (Refused e) h = same (Failed comm) (Refused e) tt refl h.1
  each_answer (Ack count comm) (Acked total) h = idly (Ack count comm) (Acked total) tt (idle_where (nat_lt (acknowledged_of r.log comm.number) total) r (Ack count comm) (Acknowledged comm total) new (record { idle = tt; apart = tt; stop = refl }) refl h.2)
  each_answer (Ack count comm) (Refused e) h = same (Ack count comm) (Refused e) tt refl h.0.1
  each_answer (Revoke comm) Revoked h = idly (Revoke comm) Revoked tt (idle_unless (is_revoked r.log comm.number) r (Revoke comm) (RevokedEntry comm) new (record { idle = tt; apart = tt; stop = refl }) (λ was. inl refl) h.1)
  each_answer (Revoke comm) (Refused e) h = same (Revoke comm) (Refused e) tt refl h.0.1
  each_answer (Dup comm again) (Made made) h = idly (Dup comm again) (Made made) tt (inr (Duplicated comm (dups_of r.log comm.number), record { idle = tt; apart = tt; stop = refl }, h.2))
  each_answer (Dup comm again) (Refused e) h = same (Dup comm again) (Refused e) tt refl h.1
  each_answer (Shrink comm again) (Refused e) h = same (Shrink comm again) (Refused e) tt refl h.1
  each_answer (Agree flag comm) (Refused e) h = same (Agree flag comm) (Refused e) tt refl h.1
  each_answer (Note text) Noted h = same (Note text) Noted tt refl h
  each_answer Stop Stopped h = idly Stop Stopped tt (idle_unless (is_stopped r.log) r Stop StopEntry new (record { idle = tt; apart = tt; stop = refl }) (λ was. inr was) h)
  each_answer _ _ h = absurd h
