-- What the answer of a step says of its rank, and what it does to it.
use Rattle.std.specs.Prelude.{◌≡◌, ℕ, ⊤, Bool, false, List, [], ◌<◌, ◌≤◌, length, filter_map, Option, Some, None, slice_get, if◌then◌else◌}
use Rattle.ulfm_base.specs.declared.topic.Topic.{Topic}
use Rattle.ulfm_base.specs.declared.context.Context.{Context}
use Rattle.ulfm_base.specs.declared.tag.Tag.{Tag}
use Rattle.ulfm_base.specs.declared.pattern.Pattern.{Pattern}
use Rattle.ulfm_base.specs.declared.error.CallError.{CallError}
use Rattle.ulfm_base.specs.declared.error.CallError.TheVariants.{NoRequest, OutOfMemory}
use Rattle.ulfm_base.specs.Context.{nth_dup}
use Rattle.ulfm_base.specs.Group.{rank_in}
use Rattle.ulfm_base.specs.declared.request_id.RequestId.{RequestId}
use Rattle.ulfm_match.specs.History.{count_before}
use Rattle.ulfm_match.specs.Pairing.{Pairing, LawfulPairing}
use Rattle.ulfm_log.specs.declared.entry.Comm.{Comm}
use Rattle.ulfm_log.specs.declared.entry.Entry.{Entry}
use Rattle.ulfm_log.specs.declared.entry.Entry.TheVariants.{Released, Received, Cancelled as CancelEntry, Duplicated}
use Rattle.ulfm_log.specs.declared.entry.TestAnswer.{TestAnswer}
use Rattle.ulfm_log.specs.declared.entry.TestAnswer.TheVariants.{Done as TestDone, Over as TestOver, Pending as TestPending, NotYet as TestNotYet}
use Rattle.ulfm_log.specs.declared.message.MessageId.{MessageId}
use Rattle.ulfm_log.specs.State.{State, logged}
use Rattle.ulfm_log.specs.Facts.{is_revoked, known_in, acknowledged_of, ack_answer}
use Rattle.ulfm_rank.specs.History.{history_of}
use Rattle.ulfm_rank.specs.Answer.{IsRequest, IsNoRequest, IsTestAnswer, is_release}
use Rattle.ulfm_rank.specs.Checks.{Check, Passes, Fails, FailsOrStarves, group_at, comm_checks, send_checks, receive_checks, dup_checks, shrink_checks, agree_checks}
use Rattle.ulfm_rank.specs.Calls.{Sends, Posts, Enters, acknowledging, revoking, stopping}
use Rattle.ulfm_log.specs.Communicators.{dups_of}
use Rattle.ulfm_log.specs.Proposal.{next_agreement, next_shrink}
use Rattle.ulfm_rank.specs.Messages.{IsMessage, IsNoMessage, IsMessageAnswer, IsProbed, FindsNone, IsProbeRefusal}
use Rattle.ulfm_job.specs.declared.step.Step.{Step}
use Rattle.ulfm_job.specs.declared.step.Step.TheVariants.{Send, Recv, Wait, Probe, Mrecv, Cancel, Failed, Ack, Revoke, Dup, Shrink, Agree, Note, Stop}
use Rattle.ulfm_answer.specs.declared.answer.StepAnswer.{StepAnswer}
use Rattle.ulfm_answer.specs.declared.answer.StepAnswer.TheVariants.{Sent, Posted, Done, Over, Pending, Found, Cancelled, Ranks, Acked, Revoked, Made, Noted, Stopped, Refused}
use Rattle.ulfm_answer.specs.declared.answer.StepReport.{StepReport}

-- the step sends no body that takes memory of its own
abbrev pub IsShort : Step → Type 0
IsShort (Send to tag body comm) = length body ≤ 30
IsShort _ = ⊤

-- the communicator of a context
abbrev pub comm_of : Context → Comm
comm_of context = record { context = context }

-- a call that may answer out of memory is refused, and changes nothing
abbrev pub Refuses : List Check → CallError → State → State → Type 0
Refuses checks e r new = FailsOrStarves checks e × (new ≡ r)

-- a send is accepted with its letter, or refused
abbrev pub AnswersSend : State → ℕ → Tag → List ℕ → Context → StepAnswer → State → Type 0
AnswersSend r to tag body comm Sent new =
    Passes (send_checks r comm.number to (length body)) × Sends r (comm_of comm) to tag body new
AnswersSend r to tag body comm (Refused e) new = Refuses (send_checks r comm.number to (length body)) e r new
AnswersSend r to tag body comm _ new = ⊥

-- the request has the number of the new post
abbrev pub AnswersRecv : State → Option ℕ → Option Tag → ℕ → Context → StepAnswer → State → Type 0
AnswersRecv r source tag room comm (Posted id) new =
    Passes (receive_checks r comm.number source) × Posts r (comm_of comm) source tag room new
    × (id.number ≡ count_before (history_of r.log) (length (history_of r.log)))
AnswersRecv r source tag room comm (Refused e) new = Refuses (receive_checks r comm.number source) e r new
AnswersRecv r source tag room comm _ new = ⊥

-- the request that an answer tells of
abbrev pub request_of : StepAnswer → Option RequestId
request_of (Posted id) = Some id
request_of _ = None

-- the request that an answered step tells of, where there is one
abbrev pub request_in : Option StepReport → Option RequestId
request_in None = None
request_in (Some report) = request_of report.answer

-- the request that the step of this number posted, if it did
abbrev pub request_at : List StepReport → ℕ → Option RequestId
request_at before req = request_in (slice_get before req)

-- the message that an answer tells of
abbrev pub message_of : StepAnswer → Option MessageId
message_of (Found id status) = Some id
message_of _ = None

-- the message that an answered step tells of, where there is one
abbrev pub message_in : Option StepReport → Option MessageId
message_in None = None
message_in (Some report) = message_of report.answer

-- the message that the step of this number found, if it did
abbrev pub message_at : List StepReport → ℕ → Option MessageId
message_at before req = message_in (slice_get before req)

-- the rank after a test of a request, which this answer releases or doesn't
abbrev pub tested : State → RequestId → TestAnswer → State
tested r id answer = if is_release answer then logged r (Released id answer) else r

-- a test of the request that step req posted says this
pub record Tests (before : List StepReport) (r : State) (req : ℕ) (answer : TestAnswer) (new : State) : Type 0 where
  pub id : RequestId
  pub posted : request_at before req ≡ Some id
  pub place : ℕ
  pub pattern : Pattern
  pub request : IsRequest r.log id.number place pattern
  pub pairing : Pairing
  pub lawful : LawfulPairing (history_of r.log) pairing
  pub answers : IsTestAnswer r.ranks r.log id.number answer
  pub only : new ≡ tested r id answer

-- there is no request, or it was released
abbrev pub IsNoRequestOf : List Entry → Option RequestId → Type 0
IsNoRequestOf log None = ⊤
IsNoRequestOf log (Some id) = IsNoRequest log id.number

-- a wait never answers out of memory; it is refused where its step posted no request, or this one was released
abbrev pub AnswersWait : List StepReport → State → ℕ → StepAnswer → State → Type 0
AnswersWait before r req (Done status body) new = Tests before r req (TestDone status body) new
AnswersWait before r req (Over reason) new = Tests before r req (TestOver reason) new
AnswersWait before r req Pending new = Tests before r req TestPending new
AnswersWait before r req (Refused e) new = (e ≡ NoRequest) × IsNoRequestOf r.log (request_at before req) × (new ≡ r)
AnswersWait before r req _ new = ⊥

-- a message is found, or the probe is refused
abbrev pub AnswersProbe : State → Option ℕ → Option Tag → Context → StepAnswer → State → Type 0
AnswersProbe r source tag comm (Found id status) new =
    Passes (receive_checks r comm.number source) × IsProbed r (comm_of comm) source tag id status new
AnswersProbe r source tag comm (Refused e) new = IsProbeRefusal r (comm_of comm) source tag e × (new ≡ r)
AnswersProbe r source tag comm _ new = ⊥

-- a probe finds nothing, and changes nothing
abbrev pub LeavesProbe : State → Option ℕ → Option Tag → Context → State → Type 0
LeavesProbe r source tag comm new =
    Passes (receive_checks r comm.number source) × FindsNone r (comm_of comm) source tag false × (new ≡ r)

-- the message that step req found is received into so much room, with this answer
pub record Receives (before : List StepReport) (r : State) (req room : ℕ) (answer : TestAnswer) (new : State) : Type 0 where
  pub id : MessageId
  pub found : message_at before req ≡ Some id
  pub place : ℕ
  pub pattern : Pattern
  pub message : IsMessage r.log id.number place pattern
  pub pairing : Pairing
  pub lawful : LawfulPairing (history_of r.log) pairing
  pub answers : IsMessageAnswer r.ranks r.log id.number room answer
  pub only : new ≡ logged r (Received id answer)

-- there is no message, or it was received
abbrev pub IsNoMessageOf : List Entry → Option MessageId → Type 0
IsNoMessageOf log None = ⊤
IsNoMessageOf log (Some id) = IsNoMessage log id.number

-- A receive of what a probe found never answers out of memory, and is never left open; it is refused where its step found no
-- message, or this one was received.
abbrev pub AnswersMrecv : List StepReport → State → ℕ → ℕ → StepAnswer → State → Type 0
AnswersMrecv before r req room (Done status body) new = Receives before r req room (TestDone status body) new
AnswersMrecv before r req room (Over reason) new = Receives before r req room (TestOver reason) new
AnswersMrecv before r req room (Refused e) new = (e ≡ NoRequest) × IsNoMessageOf r.log (message_at before req) × (new ≡ r)
AnswersMrecv before r req room _ new = ⊥

-- the request that step req posted is cancelled: a test would leave it
pub record Cancels (before : List StepReport) (r : State) (req : ℕ) (new : State) : Type 0 where
  pub answer : TestAnswer
  pub goes_on : is_release answer ≡ false
  pub tests : Tests before r req answer r
  pub only : new ≡ logged r (CancelEntry tests.id)

-- a cancel answers as a wait where a test would release the request, and is refused as a wait
abbrev pub AnswersCancel : List StepReport → State → ℕ → StepAnswer → State → Type 0
AnswersCancel before r req Cancelled new = Cancels before r req new
AnswersCancel before r req (Done status body) new = Tests before r req (TestDone status body) new
AnswersCancel before r req (Over reason) new = Tests before r req (TestOver reason) new
AnswersCancel before r req (Refused e) new = (e ≡ NoRequest) × IsNoRequestOf r.log (request_at before req) × (new ≡ r)
AnswersCancel before r req _ new = ⊥

-- these are the positions in the group of its members that are known to have failed, in the order of the notices
abbrev pub IsFailedList : List ℕ → List Entry → List ℕ → Type 0
IsFailedList group log positions = positions ≡ filter_map (λ member. rank_in group member) (known_in log group)

-- the failed members are told, or the question is refused
abbrev pub AnswersFailed : State → Context → StepAnswer → State → Type 0
AnswersFailed r comm (Ranks members) new =
    Passes (comm_checks r comm.number []) × IsFailedList (group_at r comm.number) r.log members.items × (new ≡ r)
AnswersFailed r comm (Refused e) new = Fails (comm_checks r comm.number []) e × (new ≡ r)
AnswersFailed r comm _ new = ⊥

-- the total is told, or the acknowledgement is refused; where the total stays as it was, not by out of memory
abbrev pub AnswersAck : State → ℕ → Context → StepAnswer → State → Type 0
AnswersAck r count comm (Acked total) new =
    Passes (comm_checks r comm.number []) × (total ≡ ack_answer r.log (group_at r comm.number) comm.number count)
    × (new ≡ acknowledging r comm total)
AnswersAck r count comm (Refused e) new =
    Refuses (comm_checks r comm.number []) e r new
    × (e ≡ OutOfMemory → acknowledged_of r.log comm.number < ack_answer r.log (group_at r comm.number) comm.number count)
AnswersAck r count comm _ new = ⊥

-- the communicator is revoked, or the revocation is refused; where it was revoked before, not by out of memory
abbrev pub AnswersRevoke : State → Context → StepAnswer → State → Type 0
AnswersRevoke r comm Revoked new = Passes (comm_checks r comm.number []) × (new ≡ revoking r comm)
AnswersRevoke r comm (Refused e) new =
    Refuses (comm_checks r comm.number []) e r new × (e ≡ OutOfMemory → is_revoked r.log comm.number ≡ false)
AnswersRevoke r comm _ new = ⊥

-- the duplicate is made, or refused
abbrev pub AnswersDup : State → Context → Bool → StepAnswer → State → Type 0
AnswersDup r comm again (Made child) new =
    Passes (dup_checks again r comm.number) × (child.context.number ≡ nth_dup (dups_of r.log comm.number) comm.number) × (new ≡ logged r (Duplicated comm (dups_of r.log comm.number)))
AnswersDup r comm again (Refused e) new = Refuses (dup_checks again r comm.number) e r new
AnswersDup r comm again _ new = ⊥

-- why the entry of a step is refused that ranks decide together
abbrev pub entry_checks : State → Step → List Check
entry_checks r (Shrink comm again) = shrink_checks again r comm
entry_checks r (Agree flag comm) = agree_checks r comm
entry_checks r _ = []

-- what a step enters that ranks decide together: the next shrink of its communicator, or the next agreement on it
abbrev pub entered_by : List Entry → Step → Option Topic
entered_by log (Shrink comm again) = Some (next_shrink log comm)
entered_by log (Agree flag comm) = Some (next_agreement log comm)
entered_by log _ = None

-- the flag that a step brings in: an agreement has one
abbrev pub flag_of : Step → Option ℕ
flag_of (Agree flag comm) = Some flag
flag_of _ = None

-- a step that ranks decide together enters its topic, with the failures that are known and its flag
pub record EntersBy (old : State) (asked : Step) (topic : Topic) (new : State) : Type 0 where
  pub about : entered_by old.log asked ≡ Some topic
  pub accepted : Passes (entry_checks old asked)
  pub enters : Enters old topic (flag_of asked) new

-- a step enters its topic
abbrev pub EntersSome : State → Step → State → Type 0
EntersSome old asked new = (topic : Topic) × EntersBy old asked topic new

-- the first poll of a shrink or an agreement is refused, where it doesn't enter
abbrev pub AnswersEntry : State → Step → StepAnswer → State → Type 0
AnswersEntry r asked (Refused e) new = Refuses (entry_checks r asked) e r new
AnswersEntry r asked _ new = ⊥

-- a note is made, and changes nothing
abbrev pub AnswersNote : State → StepAnswer → State → Type 0
AnswersNote r Noted new = new ≡ r
AnswersNote r _ new = ⊥

-- the rank stops
abbrev pub AnswersStop : State → StepAnswer → State → Type 0
AnswersStop r Stopped new = new ≡ stopping r
AnswersStop r _ new = ⊥

-- A poll that answers the step says this, after these answered steps, and makes `new` of the rank.
abbrev pub AnswersStep : List StepReport → State → Step → StepAnswer → State → Type 0
AnswersStep before r (Send to tag body comm) answer new = AnswersSend r to tag body comm answer new
AnswersStep before r (Recv source tag room comm) answer new = AnswersRecv r source tag room comm answer new
AnswersStep before r (Wait req) answer new = AnswersWait before r req answer new
AnswersStep before r (Probe source tag comm) answer new = AnswersProbe r source tag comm answer new
AnswersStep before r (Mrecv req room) answer new = AnswersMrecv before r req room answer new
AnswersStep before r (Cancel req) answer new = AnswersCancel before r req answer new
AnswersStep before r (Failed comm) answer new = AnswersFailed r comm answer new
AnswersStep before r (Ack count comm) answer new = AnswersAck r count comm answer new
AnswersStep before r (Revoke comm) answer new = AnswersRevoke r comm answer new
AnswersStep before r (Dup comm again) answer new = AnswersDup r comm again answer new
AnswersStep before r (Shrink comm again) answer new = AnswersEntry r (Shrink comm again) answer new
AnswersStep before r (Agree flag comm) answer new = AnswersEntry r (Agree flag comm) answer new
AnswersStep before r (Note text) answer new = AnswersNote r answer new
AnswersStep before r Stop answer new = AnswersStop r answer new

-- A poll leaves the step open: a wait, whose test says so; a probe, which finds nothing; a shrink or an agreement, which is entered.
abbrev pub LeavesOpen : List StepReport → State → Step → State → Type 0
LeavesOpen before r (Wait req) new = Tests before r req TestNotYet new
LeavesOpen before r (Probe source tag comm) new = LeavesProbe r source tag comm new
LeavesOpen before r (Shrink comm again) new = EntersSome r (Shrink comm again) new
LeavesOpen before r (Agree flag comm) new = EntersSome r (Agree flag comm) new
LeavesOpen before r _ new = ⊥
