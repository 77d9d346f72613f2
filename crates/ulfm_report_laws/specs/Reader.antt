-- What a reader of reports may rely on: which letter each receive was given, and who sent it (MPI 4.0, 3.5).
use Rattle.std.specs.Prelude.{⊤, ◌≡◌, ◌↔◌, ◌++◌, ◌<◌, ◌≤◌, ℕ, false, List, length, max, take, Option, Some, None, slice_get}
use Rattle.ulfm_base.specs.declared.tag.Tag.{Tag}
use Rattle.ulfm_base.specs.declared.context.Context.{Context}
use Rattle.ulfm_base.specs.declared.envelope.Letter.{Letter}
use Rattle.ulfm_base.specs.declared.pattern.Pattern.{Pattern}
use Rattle.ulfm_base.specs.declared.error.CallError.TheVariants.{ProcFailed, Revoked, Truncated}
use Rattle.ulfm_base.specs.Group.{rank_in}
use Rattle.ulfm_base.specs.Pattern.{Admits}
use Rattle.ulfm_match.specs.History.{History, End, PostAt, ComeAt, StandsBetween, IsLiveReceive, IsLiveLetter, count_before}
use Rattle.ulfm_match.specs.Pairing.{Pairing, Pairs, LawfulPairing}
use Rattle.ulfm_log.specs.declared.entry.Status.{Status}
use Rattle.ulfm_log.specs.declared.message.MessageId.{MessageId}
use Rattle.ulfm_rank.specs.Calls.{IsSourceOf}
use Rattle.ulfm_rank.specs.Checks.{group_at}
use Rattle.ulfm_log.specs.Facts.{is_stopped, is_revoked}
use Rattle.ulfm_rank.specs.History.{history_of}
use Rattle.ulfm_job.specs.declared.step.Step.{Step}
use Rattle.ulfm_job.specs.declared.step.Step.TheVariants.{Send, Recv, Wait, Probe, Mrecv, Cancel}
use Rattle.ulfm_answer.specs.declared.answer.StepAnswer.{StepAnswer}
use Rattle.ulfm_answer.specs.declared.answer.StepAnswer.TheVariants.{Sent, Posted, Done, Over, Found, Cancelled}
use Rattle.ulfm_answer.specs.declared.answer.StepReport.{StepReport}
use Rattle.ulfm_script.specs.Player.{step_report}
use Rattle.ulfm_answer.specs.Report.{Report}
use Rattle.ulfm_report_laws.specs.Contents.{Content, letters_come, letters_sent}
use Rattle.ulfm_report_laws.specs.Reports.{report_at}

-- what happened at the rank r, in order
abbrev pub history_at : List Report → ℕ → History
history_at reports r = history_of (report_at reports r).rank.log

-- step k of the report is this one, with this answer
pub record IsStep (report : Report) (k : ℕ) (asked : Step) (said : StepAnswer) : Type 0 where
  pub at : ℕ
  pub polls : ℕ
  pub stands : slice_get report.steps k ≡ Some (step_report asked said at polls)

-- On each communicator, what came to a rank from another one is a beginning of what the answered steps of that one sent
-- to it: nothing is made, left out, doubled or overtaken. After its revocation no letter of a communicator comes.
abbrev pub ComeAsSent : List Report → Type 0
ComeAsSent reports =
    (s d c : ℕ) → s < length reports → d < length reports → (rest : List Content) ×
    (letters_come s c (history_at reports d) ++ rest ≡ letters_sent (report_at reports s).rank c d (report_at reports s).steps)

-- On each communicator that isn't revoked at a running rank, all has come that running ranks sent to it.
abbrev pub AllHasCome : List Report → Type 0
AllHasCome reports =
    (s d c : ℕ) → s < length reports → d < length reports → is_stopped (report_at reports s).rank.log ≡ false
    → is_stopped (report_at reports d).rank.log ≡ false → is_revoked (report_at reports d).rank.log c ≡ false
    → letters_come s c (history_at reports d) ≡ letters_sent (report_at reports s).rank c d (report_at reports s).steps

-- the history of each rank has a lawful pairing, and no other
abbrev pub HasOnePairing : List Report → Type 0
HasOnePairing reports =
    (d : ℕ) → d < length reports → (r : Pairing) × LawfulPairing (history_at reports d) r ×
    ((s : Pairing) → LawfulPairing (history_at reports d) s → (i b : ℕ) → Pairs r i b ↔ Pairs s i b)

-- A step with this answer posted the receive of this source, pattern and number. A probe that found a letter posted one that
-- ended at once, with room for the 1,024 bytes of the longest letter.
abbrev pub PostsAs : Step → StepAnswer → Option ℕ → Pattern → ℕ → Type 0
PostsAs (Recv source tag room comm) (Posted id) asked pattern number =
    (source ≡ asked) × (tag ≡ pattern.tag) × (room ≡ pattern.room) × (comm ≡ pattern.context) × (id.number ≡ number)
PostsAs (Probe source tag comm) (Found id status) asked pattern number =
    (source ≡ asked) × (tag ≡ pattern.tag) × (1024 ≡ pattern.room) × (comm ≡ pattern.context) × (id.number ≡ number)
PostsAs _ _ asked pattern number = ⊥

-- The receive at this place of the history is the one that step i posted.
pub record IsPostedBy (report : Report) (i place : ℕ) (pattern : Pattern) : Type 0 where
  pub asked : Step
  pub said : StepAnswer
  pub step : IsStep report i asked said
  pub source : Option ℕ
  pub number : ℕ
  pub posts : PostsAs asked said source pattern number
  pub posted : PostAt (history_of report.rank.log) place pattern
  pub numbered : count_before (history_of report.rank.log) place ≡ number
  pub asks_for : IsSourceOf (group_at report.rank pattern.context.number) source pattern.source

-- how many letters of the communicator c came to the rank d from s before this place of its history
abbrev pub come_before : List Report → ℕ → ℕ → ℕ → ℕ → ℕ
come_before reports s d c place = length (letters_come s c (take place (history_at reports d)))

-- how many letters the steps of s before step j sent to d on c
abbrev pub sent_before : List Report → ℕ → ℕ → ℕ → ℕ → ℕ
sent_before reports s d c j = length (letters_sent (report_at reports s).rank c d (take j (report_at reports s).steps))

-- The letter that came to the rank d at this place of its history is the one that step j of the rank s sent to it: before
-- each stand as many of s to d on this communicator.
pub record IsSentBy (reports : List Report) (d place : ℕ) (letter : Letter) (s j : ℕ) : Type 0 where
  pub to : ℕ
  pub inside : s < length reports
  pub step : IsStep (report_at reports s) j (Send to letter.envelope.tag letter.body letter.envelope.context) Sent
  pub directed : slice_get (group_at (report_at reports s).rank letter.envelope.context.number) to ≡ Some d
  pub came : ComeAt (history_at reports d) place letter
  pub source : letter.envelope.source.number ≡ s
  pub in_order : come_before reports s d letter.envelope.context.number place ≡ sent_before reports s d letter.envelope.context.number j

-- The receive that step i of the rank d posted is given the letter that step j of the rank s sent, by the rules of matching.
pub record IsGiven (reports : List Report) (d i s j : ℕ) : Type 0 where
  pub inside : d < length reports
  pub post_place : ℕ
  pub pattern : Pattern
  pub receive : IsPostedBy (report_at reports d) i post_place pattern
  pub come_place : ℕ
  pub letter : Letter
  pub sent : IsSentBy reports d come_place letter s j
  pub pairing : Pairing
  pub lawful : LawfulPairing (history_at reports d) pairing
  pub pairs : Pairs pairing post_place come_place

-- What a status that the rank d was told for step req says is true of a letter that was sent, was given to this receive, and that
-- the receive admits. The source told is the sender's position in the communicator's group.
pub record IsNamed (reports : List Report) (d req : ℕ) (status : Status) : Type 0 where
  pub sender : ℕ
  pub step : ℕ
  pub given : IsGiven reports d req sender step
  pub admits : Admits given.pattern given.letter.envelope
  pub source : rank_in (group_at (report_at reports d).rank given.pattern.context.number) sender ≡ Some status.source
  pub tag : status.tag ≡ given.letter.envelope.tag
  pub size : status.length ≡ length given.letter.body

-- each probe that found a letter tells of the one that it was given
abbrev pub FoundIsGiven : List Report → Type 0
FoundIsGiven reports =
    (d k : ℕ) (source : Option ℕ) (tag : Option Tag) (comm : Context) (id : MessageId) (status : Status) → d < length reports
    → IsStep (report_at reports d) k (Probe source tag comm) (Found id status) → IsNamed reports d k status

-- the step whose receive another one asks for: by a wait, a cancel, or a receive of what a probe found
abbrev pub asks_of : Step → Option ℕ
asks_of (Wait req) = Some req
asks_of (Mrecv req room) = Some req
asks_of (Cancel req) = Some req
asks_of _ = None

-- A receive of what a probe found may ask for a probe's step, a wait or a cancel for a receive's, and no step for any other.
abbrev pub MayAskFor : Step → Step → Type 0
MayAskFor (Mrecv req room) (Probe source tag comm) = ⊤
MayAskFor (Wait req) (Recv source tag room comm) = ⊤
MayAskFor (Cancel req) (Recv source tag room comm) = ⊤
MayAskFor _ _ = ⊥

-- the step whose receive a step with this answer closes
abbrev pub closes : Step → StepAnswer → Option ℕ
closes asked (Done status body) = asks_of asked
closes asked (Over reason) = asks_of asked
closes asked Cancelled = asks_of asked
closes asked _ = None

-- Each step that is done, over or cancelled asked for a receive that was posted, by a step that it may ask for.
abbrev pub AsksRightly : List Report → Type 0
AsksRightly reports =
    (d k req : ℕ) (asked : Step) (said : StepAnswer) → d < length reports → closes asked said ≡ Some req
    → IsStep (report_at reports d) k asked said
    → (place : ℕ) × (pattern : Pattern) × (receive : IsPostedBy (report_at reports d) req place pattern) × MayAskFor asked receive.asked

-- the room for a letter that a step asks for: that of the receive, or, for what a probe found, that of the step itself
abbrev pub room_of : Step → Pattern → ℕ
room_of (Mrecv req room) pattern = room
room_of _ pattern = pattern.room

-- What the rank d was told of a letter, when it asked for the receive of step req, is true of the one that this was given, with
-- room enough.
pub record IsTold (reports : List Report) (d req : ℕ) (asked : Step) (status : Status) (body : List ℕ) : Type 0 where
  pub named : IsNamed reports d req status
  pub fits : length named.given.letter.body ≤ room_of asked named.given.pattern
  pub carries : body ≡ named.given.letter.body

-- each step that is done tells of the letter that the receive it asks for was given
abbrev pub DoneIsGiven : List Report → Type 0
DoneIsGiven reports =
    (d k req : ℕ) (asked : Step) (status : Status) (body : List ℕ) → d < length reports → asks_of asked ≡ Some req
    → IsStep (report_at reports d) k asked (Done status body) → IsTold reports d req asked status body

-- a receive was given a letter that is longer than the room of a step that asks for it
pub record IsCut (reports : List Report) (d req : ℕ) (asked : Step) : Type 0 where
  pub sender : ℕ
  pub step : ℕ
  pub given : IsGiven reports d req sender step
  pub longer : room_of asked given.pattern < length given.letter.body

-- each receive that is over as truncated was given a letter longer than its room, and one that is over by a failure or a
-- revocation, or that was cancelled, is given none
pub record OverIsTrue (reports : List Report) : Type 0 where
  pub truncated : (d k req : ℕ) (asked : Step) → d < length reports → asks_of asked ≡ Some req
      → IsStep (report_at reports d) k asked (Over Truncated) → IsCut reports d req asked
  pub failed : (d k req s j : ℕ) (asked : Step) → d < length reports → asks_of asked ≡ Some req
      → IsStep (report_at reports d) k asked (Over ProcFailed) → IsGiven reports d req s j → ⊥
  pub revoked : (d k req s j : ℕ) (asked : Step) → d < length reports → asks_of asked ≡ Some req
      → IsStep (report_at reports d) k asked (Over Revoked) → IsGiven reports d req s j → ⊥
  pub cancelled : (d k req s j : ℕ) (asked : Step) → d < length reports → asks_of asked ≡ Some req
      → IsStep (report_at reports d) k asked Cancelled → IsGiven reports d req s j → ⊥

-- Each send is given to one receive at most, of a receive or a probe, each receive one letter at most, and each is told done, over or
-- cancelled once at most.
pub record GivesOnce (reports : List Report) : Type 0 where
  pub one_receive : (d i e k s j : ℕ) → IsGiven reports d i s j → IsGiven reports e k s j → (d ≡ e) × (i ≡ k)
  pub one_letter : (d i s j t k : ℕ) → IsGiven reports d i s j → IsGiven reports d i t k → (s ≡ t) × (j ≡ k)
  pub one_wait : (d k m req : ℕ) (x y : StepReport) → d < length reports → slice_get (report_at reports d).steps k ≡ Some x
      → slice_get (report_at reports d).steps m ≡ Some y → closes x.step x.answer ≡ Some req → closes y.step y.answer ≡ Some req
      → k ≡ m

-- a step that is done: its rank and its number, the step that it asks for, and what it was told of the letter
pub record DoneStep (reports : List Report) : Type 0 where
  pub rank : ℕ
  pub step : ℕ
  pub req : ℕ
  pub asked : Step
  pub status : Status
  pub body : List ℕ
  pub asks : asks_of asked ≡ Some req
  pub stands : IsStep (report_at reports rank) step asked (Done status body)
  pub told : IsTold reports rank req asked status body

-- the send that it tells of, by its rank and its number
abbrev pub send_of : (reports : List Report) → DoneStep reports → ℕ × ℕ
send_of reports done = (done.told.named.sender, done.told.named.step)

-- Two steps that are done and tell of one send are one step.
abbrev pub DonesDiffer : List Report → Type 0
DonesDiffer reports =
    (one other : DoneStep reports) → send_of reports one ≡ send_of reports other → (one.rank ≡ other.rank) × (one.step ≡ other.step)

-- No letter overtakes another: of two that one rank sent to another and that a receive admits, the later isn't given to it
-- unless the earlier was given to a receive that was posted before.
abbrev pub LettersKeepOrder : List Report → Type 0
LettersKeepOrder reports =
    (d i s j k to : ℕ) (tag : Tag) (body : List ℕ) (comm : Context) (given : IsGiven reports d i s j) → k < j
    → IsStep (report_at reports s) k (Send to tag body comm) Sent
    → slice_get (group_at (report_at reports s).rank comm.number) to ≡ Some d
    → Admits given.pattern (record { context = comm; source = given.letter.envelope.source; tag = tag })
    → (before : ℕ) × (before < i) × IsGiven reports d before s k

-- No receive overtakes another: if one that was posted earlier also admits the letter, and hasn't ended before the pair is made (by
-- a failure, by a cancel, or at once as a probe), then it is given a letter that came earlier.
abbrev pub ReceivesKeepOrder : List Report → Type 0
ReceivesKeepOrder reports =
    (d i s j k place : ℕ) (pattern : Pattern) (given : IsGiven reports d i s j) → k < i
    → IsPostedBy (report_at reports d) k place pattern → Admits pattern given.letter.envelope
    → (StandsBetween (history_at reports d) (End place) place (max given.post_place given.come_place) → ⊥)
    → (sender step : ℕ) × (earlier : IsGiven reports d k sender step) × (earlier.come_place < given.come_place)

-- a receive of the rank d is left: it is neither over nor given a letter
pub record IsLeftWaiting (reports : List Report) (d i : ℕ) (pattern : Pattern) : Type 0 where
  pub place : ℕ
  pub receive : IsPostedBy (report_at reports d) i place pattern
  pub live : IsLiveReceive (history_at reports d) place pattern (length (history_at reports d))
  pub given_none : (s j : ℕ) → IsGiven reports d i s j → ⊥

-- a letter that came to the rank d is left: its communicator isn't revoked, and no receive is given it
pub record IsLeftKept (reports : List Report) (d s j : ℕ) (letter : Letter) : Type 0 where
  pub place : ℕ
  pub sent : IsSentBy reports d place letter s j
  pub live : IsLiveLetter (history_at reports d) place letter (length (history_at reports d))
  pub given_to_none : (i : ℕ) → IsGiven reports d i s j → ⊥

-- No match is missed: no receive that is left admits a letter that is left.
abbrev pub NoneIsMissed : List Report → Type 0
NoneIsMissed reports =
    (d i s j : ℕ) (pattern : Pattern) (letter : Letter) → d < length reports → IsLeftWaiting reports d i pattern
    → IsLeftKept reports d s j letter → Admits pattern letter.envelope → ⊥

-- All of this: what a trace tells of letters is true of what was sent, once each and in order.
pub record IsFaithful (reports : List Report) : Type 0 where
  pub as_sent : ComeAsSent reports
  pub asks : AsksRightly reports
  pub found : FoundIsGiven reports
  pub done : DoneIsGiven reports
  pub over : OverIsTrue reports
  pub once : GivesOnce reports
  pub dones_differ : DonesDiffer reports
  pub letters_in_order : LettersKeepOrder reports
  pub receives_in_order : ReceivesKeepOrder reports
  pub one_pairing : HasOnePairing reports
  pub none_missed : NoneIsMissed reports
