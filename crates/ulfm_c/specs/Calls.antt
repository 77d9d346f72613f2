-- What an export does, and the code that it answers.
use Rattle.std.specs.Prelude.{◌≡◌, ◌≢◌, ℕ, ◌≤◌, ◌⊎◌, ◌==◌, List, Option, Some, None, min, if◌then◌else◌}
use Rattle.ulfm_base.specs.declared.context.TheConstants.{PAST_CONTEXTS}
use Rattle.ulfm_base.specs.declared.error.CallError.{CallError}
use Rattle.ulfm_base.specs.declared.error.CallError.TheVariants.{NoComm, BadRank, BadTag, TooLong, ProcFailed, Revoked, NoRequest, AlreadyMade, NoContext, Stopped, NotMember, OutOfMemory, BadSize, NotEntered, Truncated}
use Rattle.ulfm_base.specs.declared.tag.Tag.{Tag}
use Rattle.ulfm_c.specs.View.{ProcessView, ReadyView}
use Rattle.ulfm_rank.specs.Checks.{Check, FailsOrStarves, Passes}
use Rattle.ulfm_log.specs.declared.entry.Comm.{Comm}

-- whether there is a process
abbrev pub holding : {X : Type 0} → Option X → ℕ
holding None = 0
holding (Some x) = 1

-- the code of a refusal
abbrev pub number_of : CallError → ℕ
number_of NoComm = 1
number_of BadRank = 2
number_of BadTag = 3
number_of TooLong = 4
number_of ProcFailed = 5
number_of Revoked = 6
number_of NoRequest = 7
number_of AlreadyMade = 8
number_of NoContext = 9
number_of Stopped = 10
number_of NotMember = 11
number_of OutOfMemory = 12
number_of BadSize = 13
number_of NotEntered = 14
number_of Truncated = 15

-- of two things that a call writes to, each is as it was
abbrev pub AreKept : {X Y : Type 0} → X → X → Y → Y → Type 0
AreKept old new other_old other_new = (new ≡ old) × (other_new ≡ other_old)

-- Without a process the code is 16, none comes, and what is written to is kept. Else there is one before and after, and this holds of both and of
-- their room.
abbrev pub RoomCall : Option ReadyView → Option ReadyView → ℕ → Type 0 → (ReadyView → ReadyView → Type 0) → Type 0
RoomCall None None code kept does = (code ≡ 16) × kept
RoomCall (Some old) (Some new) code kept does = does old new
RoomCall _ _ code kept does = ⊥

-- a call of which this holds, whatever the room is
abbrev pub Call : Option ReadyView → Option ReadyView → ℕ → Type 0 → (ProcessView → ProcessView → Type 0) → Type 0
Call old new code kept does = RoomCall old new code kept (λ o n. does o.view n.view)

-- The code is that of a refusal, for this cause. Nothing changes, and what is written to is kept.
abbrev pub Refused : ProcessView → ProcessView → ℕ → Type 0 → (CallError → Type 0) → Type 0
Refused old new code kept why = (e : CallError) × (code ≡ number_of e) × why e × (new ≡ old) × kept

-- the code is 0 and this was done, or it is that of a refusal
abbrev pub Answers : ProcessView → ProcessView → ℕ → Type 0 → Type 0 → (CallError → Type 0) → Type 0
Answers old new code kept done why = ((code ≡ 0) × done) ⊎ Refused old new code kept why

-- the answer of a call that passes these checks and does this, or is refused by them or by a growth that was refused
abbrev pub Checked : ProcessView → ProcessView → ℕ → Type 0 → List Check → Type 0 → Type 0
Checked old new code kept checks done = Answers old new code kept (Passes checks × done) (FailsOrStarves checks)

-- A call names its communicator by its number. Where none can have it the code is 1 and nothing changes, else this holds of it.
abbrev pub CommCall : ProcessView → ProcessView → ℕ → ℕ → Type 0 → (Comm → Type 0) → Type 0
CommCall old new comm code kept does = ((code ≡ 1) × (PAST_CONTEXTS ≤ comm) × (new ≡ old) × kept) ⊎ ((c : Comm) × (c.context.number ≡ comm) × does c)

-- the number by which C asks for any source and any tag
abbrev pub any : ℕ
any = 4294967295

-- a position that is named, past 255 as 255, which no communicator has; or any
abbrev pub source_named : ℕ → Option ℕ
source_named n = if n == any then None else Some (min n 255)

-- the tag that is named, or any
abbrev pub NamesTag : ℕ → Option Tag → Type 0
NamesTag n None = n ≡ any
NamesTag n (Some t) = t.number ≡ n

-- A receive or a probe names its tag. Past 32767 the code is 3 and nothing changes, else this holds of it.
abbrev pub TagCall : ProcessView → ProcessView → ℕ → ℕ → Type 0 → (Option Tag → Type 0) → Type 0
TagCall old new tag code kept does = ((code ≡ 3) × (32768 ≤ tag) × (tag ≢ any) × (new ≡ old) × kept) ⊎ ((t : Option Tag) × NamesTag tag t × does t)
