-- What a step that stands open waits for, and who would have to bring it.
use Rattle.std.specs.Prelude.{ℕ, ◌+◌, ◌==◌, ◌&&◌, ◌||◌, not, Bool, true, false, List, [], ◌∷◌, ◌++◌, Option, Some, None, length, codes, drop, filter, nat_lt, slice_get, if◌then◌else◌}
use Rattle.std.specs.Fmt.{decimal}
use Rattle.std.specs.List.{list_any}
use Rattle.std.specs.Option.{option_and_then, option_map, option_or}
use Rattle.ulfm_base.specs.Group.{rank_in}
use Rattle.ulfm_base.specs.Topic.{is_topic}
use Rattle.ulfm_base.specs.declared.context.Context.{Context}
use Rattle.ulfm_base.specs.declared.item.Item.{Item}
use Rattle.ulfm_base.specs.declared.item.Item.TheVariants.{Gone, Enter}
use Rattle.ulfm_base.specs.declared.tag.Tag.{Tag}
use Rattle.ulfm_base.specs.declared.topic.Topic.{Topic}
use Rattle.ulfm_log.specs.Communicators.{members_of}
use Rattle.ulfm_log.specs.Proposal.{last_agreement, last_shrink}
use Rattle.ulfm_log.specs.State.{State}
use Rattle.ulfm_log.specs.declared.entry.Entry.{Entry}
use Rattle.ulfm_log.specs.declared.entry.Entry.TheVariants.{Took}
use Rattle.ulfm_job.specs.Job.{JobView, bodiless, script_at}
use Rattle.ulfm_job.specs.Naming.{naming_at, played_on}
use Rattle.ulfm_job.specs.Words.{ToldStep, tag_text, told_at, told_text}
use Rattle.ulfm_job.specs.declared.naming.Naming.{Naming}
use Rattle.ulfm_job.specs.declared.step.Step.{Step}
use Rattle.ulfm_job.specs.declared.step.Step.TheVariants.{Send, Recv, Wait, Probe, Shrink, Agree}
use Rattle.ulfm_answer.specs.Trace.{answer_text}
use Rattle.ulfm_script.specs.Meant.{meant_by, nowhere, played_at}
use Rattle.ulfm_answer.specs.declared.answer.StepAnswer.{StepAnswer}
use Rattle.ulfm_answer.specs.declared.answer.StepAnswer.TheVariants.{Sent, Shrunk, Agreed}
use Rattle.ulfm_answer.specs.declared.answer.StepReport.{StepReport}

-- a step, where there is one: its rank, its number, and its words
abbrev pub named_by : ℕ → ℕ → Option ToldStep → List ℕ
named_by r k None = []
named_by r k (Some told) = decimal r ++ codes "." ++ decimal k ++ codes " " ++ told_text told

-- the step k of the rank r of a job so
abbrev pub named_step : JobView → ℕ → ℕ → List ℕ
named_step j r k = named_by r k (told_at j r k)

-- by which step a rank waits, as it is played: a wait by the receive that it names, and any other step by itself
abbrev pub need_of : JobView → ℕ → List StepReport → Step → Option Step
need_of j r done (Wait req) = option_and_then bodiless (played_at j r done req)
need_of j r done asked = bodiless asked

-- the communicator of a step by which a rank waits
abbrev pub wanted_by : Step → Context
wanted_by (Recv source tag room comm) = comm
wanted_by (Probe source tag comm) = comm
wanted_by (Shrink comm again) = comm
wanted_by (Agree flag comm) = comm
wanted_by _ = nowhere

-- the communicator that a step names, behind these answers: where the named one isn't answered yet, it may be the one that is wanted
abbrev pub may_be : List StepReport → Context → Naming → Context
may_be done wanted n = if nat_lt n.step (length done) then meant_by done n else wanted

-- the step k of the rank s as it may be played behind these answers
abbrev pub may_mean : JobView → ℕ → List StepReport → Context → ℕ → Step → Step
may_mean j s done wanted k asked = played_on (option_map (may_be done wanted) (naming_at j s k)) asked

-- the tag is the one that is asked for, or none is
abbrev pub fits_tag : Option Tag → Tag → Bool
fits_tag None tag = true
fits_tag (Some named) tag = named.number == tag.number

-- the position is this one
abbrev pub is_position : Option ℕ → ℕ → Bool
is_position None at = false
is_position (Some position) at = position == at

-- a step that would bring what a rank at this position waits for by a step: a message that fits, or an entry
abbrev pub would_bring : Step → Option ℕ → Step → Bool
would_bring (Recv source asked room on) position (Send to tag body comm) = comm.number == on.number && (is_position position to && fits_tag asked tag)
would_bring (Probe source asked on) position (Send to tag body comm) = comm.number == on.number && (is_position position to && fits_tag asked tag)
would_bring (Shrink on earlier) position (Shrink comm again) = comm.number == on.number
would_bring (Agree own on) position (Agree flag comm) = comm.number == on.number
would_bring _ _ _ = false

-- the answer of a step that brought it
abbrev pub is_brought : StepAnswer → Bool
is_brought Sent = true
is_brought (Shrunk child group me) = true
is_brought (Agreed value missing) = true
is_brought _ = false

-- the step has such an answer
abbrev pub has_brought : Option StepReport → Bool
has_brought None = false
has_brought (Some report) = is_brought report.answer

-- a step would bring it, and didn't
abbrev pub is_due : Step → Option ℕ → Step → Option StepReport → Bool
is_due need position step report = would_bring need position step && not (has_brought report)

-- the first such step, from the one numbered k
abbrev pub due_from : JobView → ℕ → Step → Option ℕ → List StepReport → ℕ → List Step → Option ℕ
due_from j s need position done k [] = None
due_from j s need position done k (step ∷ steps) =
    if is_due need position (may_mean j s done (wanted_by need) k step) (slice_get done k) then Some k else due_from j s need position done (k + 1) steps

-- the step of the rank s with these answers that would bring it: the first that stands open or isn't reached, or else the first that was answered, and didn't
abbrev pub due_in : JobView → ℕ → Step → Option ℕ → List StepReport → Option ℕ
due_in j s need position done =
    option_or (due_from j s need position done (length done) (drop (length done) (script_at j s))) (due_from j s need position done 0 (script_at j s))

-- what came of the step k of a rank, of which so many have an answer and the next stands open or not: its answer, or that it is this one, or isn't reached
abbrev pub fate_text : ℕ → Bool → ℕ → Option StepReport → List ℕ
fate_text answered is_open k (Some report) = answer_text report.answer
fate_text answered is_open k None = if is_open && k == answered then codes "open" else codes "not reached"

-- the step k of the rank s, and what came of it
abbrev pub due_text : JobView → ℕ → List StepReport → Bool → ℕ → List ℕ
due_text j s done is_open k = named_step j s k ++ codes ": " ++ fate_text (length done) is_open k (slice_get done k)

-- who would bring it: a step of the rank s, or none
abbrev pub bearer_text : JobView → ℕ → List StepReport → Bool → Option ℕ → List ℕ
bearer_text j s done is_open None = codes "no step of " ++ decimal s ++ codes " would bring it"
bearer_text j s done is_open (Some k) = due_text j s done is_open k

-- a message of the rank s
abbrev pub message_text : ℕ → Option Tag → Context → List ℕ
message_text s tag comm = codes "a message from " ++ decimal s ++ codes " tag " ++ tag_text tag ++ codes " comm " ++ decimal comm.number

-- the entry of the rank s into the shrink of a communicator
abbrev pub shrinking_text : ℕ → Context → List ℕ
shrinking_text s comm = codes "the entry of " ++ decimal s ++ codes " into the shrink of comm " ++ decimal comm.number

-- the entry of the rank s into an agreement on it
abbrev pub agreeing_text : ℕ → Context → List ℕ
agreeing_text s comm = codes "the entry of " ++ decimal s ++ codes " into an agreement on comm " ++ decimal comm.number

-- what is waited for by a step, of the rank s
abbrev pub need_text : Step → ℕ → List ℕ
need_text (Recv source tag room comm) s = message_text s tag comm
need_text (Probe source tag comm) s = message_text s tag comm
need_text (Shrink comm again) s = shrinking_text s comm
need_text (Agree flag comm) s = agreeing_text s comm
need_text _ s = []

-- an item after which nobody waits for its sender in the decision on a topic: its entry, or the notice that it stopped
abbrev pub settles : Topic → Item → Bool
settles topic Gone = true
settles topic (Enter entrance) = is_topic entrance.topic topic
settles topic _ = false

-- an entry of a log takes such an item of the rank s
abbrev pub settles_from : Topic → ℕ → Entry → Bool
settles_from topic s (Took from item) = from.number == s && settles topic item
settles_from topic s _ = false

-- the members other than the rank `me` of whom it took neither
abbrev pub not_heard : ℕ → List Entry → List ℕ → Topic → List ℕ
not_heard me log group topic = filter (λ s. not (s == me || list_any (settles_from topic s) log)) group

-- the member at a position, where there is one
abbrev pub member_there : Option ℕ → List ℕ
member_there None = []
member_there (Some s) = s ∷ []

-- the member at the position, or all where it is left open
abbrev pub senders : List ℕ → Option ℕ → List ℕ
senders group None = group
senders group (Some position) = member_there (slice_get group position)

-- the members of a communicator at a rank
abbrev pub group_in : State → Context → List ℕ
group_in r comm = members_of r.ranks r.log comm.number

-- of whom a rank waits for something by a step, when its log went so far
abbrev pub awaited : State → List Entry → Step → List ℕ
awaited r log (Recv source tag room comm) = senders (group_in r comm) source
awaited r log (Probe source tag comm) = senders (group_in r comm) source
awaited r log (Shrink comm again) = not_heard r.me log (group_in r comm) (last_shrink log comm)
awaited r log (Agree flag comm) = not_heard r.me log (group_in r comm) (last_agreement log comm)
awaited r log _ = []

-- at which position of the communicator of a step a rank stands
abbrev pub position_by : State → Step → Option ℕ
position_by r (Recv source tag room comm) = rank_in (group_in r comm) r.me
position_by r (Probe source tag comm) = rank_in (group_in r comm) r.me
position_by r _ = None

-- the words of what a rank waits for by its step k, which needs it, of the rank s, and of who would bring it
unfoldable pub wait_words : JobView → ℕ → ℕ → Step → ℕ → List StepReport → Bool → Option ℕ → List ℕ
wait_words j r k need s done is_open due = decimal r ++ codes "." ++ decimal k ++ codes " waits for " ++ need_text need s ++ codes ": " ++ bearer_text j s done is_open due
