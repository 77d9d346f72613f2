-- Why a call is refused: what is checked, in the order of the checks. Out of memory comes last.
use Rattle.std.specs.Prelude.{◌≡◌, ℕ, Bool, true, false, List, [], ◌∷◌, length, not, ◌||◌, ◌&&◌, ◌⊎◌, nat_le, nat_lt, Option, Some, None, slice_get, if◌then◌else◌}
use Rattle.ulfm_base.specs.declared.decision.Decision.{Decision}
use Rattle.ulfm_base.specs.declared.error.CallError.{CallError}
use Rattle.ulfm_base.specs.declared.error.CallError.TheVariants.{NoComm, BadRank, TooLong, ProcFailed, Revoked, NoRequest, AlreadyMade, NoContext, Stopped, NotMember, OutOfMemory, BadSize, NotEntered}
use Rattle.ulfm_base.specs.Context.{nth_dup, nth_shrink}
use Rattle.ulfm_base.specs.declared.context.TheConstants.{PAST_CONTEXTS}
use Rattle.ulfm_base.specs.declared.context.Context.{Context}
use Rattle.ulfm_base.specs.declared.topic.Topic.{Topic}
use Rattle.ulfm_log.specs.declared.entry.Entry.{Entry}
use Rattle.ulfm_rank.specs.Answer.{IsNoRequest}
use Rattle.ulfm_log.specs.Facts.{is_gone, is_revoked, is_stopped}
use Rattle.ulfm_log.specs.Communicators.{dups_of, is_made, members_of}
use Rattle.ulfm_log.specs.Proposal.{has_entered, has_adopted, is_agreeing, is_foreign, is_shrinking, shrinks}
use Rattle.ulfm_log.specs.State.{State}

-- whether a check refuses, and with which error
abbrev pub Check : Type 0
Check = Bool × CallError

-- the error of the first check that refuses
abbrev pub first_refusal : List Check → Option CallError
first_refusal [] = None
first_refusal (check ∷ checks) = if check.0 then Some check.1 else first_refusal checks

-- no check refuses
abbrev pub Passes : List Check → Type 0
Passes checks = first_refusal checks ≡ None

-- this is the error of the first check that refuses
abbrev pub Fails : List Check → CallError → Type 0
Fails checks e = first_refusal checks ≡ Some e

-- the error of the first check that refuses, or out of memory, but that only where no check refuses
abbrev pub FailsOrStarves : List Check → CallError → Type 0
FailsOrStarves checks e = Fails checks e ⊎ (Passes checks × (e ≡ OutOfMemory))

-- the members of the communicator c at this rank
abbrev pub group_at : State → ℕ → List ℕ
group_at r c = members_of r.ranks r.log c

-- the communicator c was not made at this rank
abbrev pub lacks : State → ℕ → Bool
lacks r c = not (is_made r.ranks r.log c)

-- the communicator has no member at this position
abbrev pub is_outside : State → ℕ → ℕ → Bool
is_outside r c position = nat_le (length (group_at r c)) position

-- a position is named that no member has
abbrev pub is_outside_if_named : State → ℕ → Option ℕ → Bool
is_outside_if_named r c None = false
is_outside_if_named r c (Some position) = is_outside r c position

-- there is a member, and it is known to have failed
abbrev pub is_gone_if_member : State → Option ℕ → Bool
is_gone_if_member r None = false
is_gone_if_member r (Some member) = is_gone r.log member

-- the member at this position is known to have failed
abbrev pub is_gone_at : State → ℕ → ℕ → Bool
is_gone_at r c position = is_gone_if_member r (slice_get (group_at r c) position)

-- of the start of the rank `me` of n
abbrev pub start_checks : ℕ → ℕ → List Check
start_checks me n = (nat_lt n 1 || nat_lt 8 n, BadSize) ∷ (nat_le n me, BadRank) ∷ []

-- of every call that names a communicator
abbrev pub comm_checks : State → ℕ → List Check → List Check
comm_checks r c more = (is_stopped r.log, Stopped) ∷ (lacks r c, NoComm) ∷ more

-- of a send to a position, of a body of so many bytes
abbrev pub send_checks : State → ℕ → ℕ → ℕ → List Check
send_checks r c dest size = comm_checks r c ((is_revoked r.log c, Revoked) ∷ (is_outside r c dest, BadRank) ∷ (nat_lt 1024 size, TooLong) ∷ (is_gone_at r c dest, ProcFailed) ∷ [])

-- of a receive from a position or any
abbrev pub receive_checks : State → ℕ → Option ℕ → List Check
receive_checks r c source = comm_checks r c ((is_revoked r.log c, Revoked) ∷ (is_outside_if_named r c source, BadRank) ∷ [])

-- a communicator that jobs name by a number has one duplicate and one shrink, unless a further one is asked for
abbrev pub is_single : Bool → ℕ → Bool
is_single again c = not again && nat_lt c 63

-- of a communicator that is made of c, of which so many were made so before: one of 0 to 62 has one such, and one past 30 none, unless a
-- further one is asked for; and its context has to be a number below 2 ^ 45
abbrev pub making_checks : Bool → ℕ → ℕ → ℕ → List Check
making_checks again c count child = (is_single again c && nat_lt 0 count, AlreadyMade) ∷ (is_single again c && nat_lt 30 c, NoContext) ∷ (nat_le PAST_CONTEXTS child, NoContext) ∷ []

-- of a duplication, or a further one
abbrev pub dup_checks : Bool → State → ℕ → List Check
dup_checks again r c = comm_checks r c ((is_revoked r.log c, Revoked) ∷ making_checks again c (dups_of r.log c) (nth_dup (dups_of r.log c) c))

-- of an entry into the next shrink, which is the first or a further one
abbrev pub shrink_checks : Bool → State → Context → List Check
shrink_checks again r context =
    comm_checks r context.number
    ((is_shrinking r.log context, AlreadyMade) ∷ making_checks again context.number (shrinks r.log context.number) (nth_shrink (shrinks r.log context.number) context.number))

-- of an entry into the next agreement
abbrev pub agree_checks : State → Context → List Check
agree_checks r context = comm_checks r context.number ((is_agreeing r.log context, AlreadyMade) ∷ [])

-- of the question for a proposal on a topic
abbrev pub proposal_checks : State → Topic → List Check
proposal_checks r topic = comm_checks r topic.context.number ((not (has_entered r.log topic), NotEntered) ∷ [])

-- of an adoption on a topic
abbrev pub adopt_checks : State → Topic → Decision → List Check
adopt_checks r topic d =
    comm_checks r topic.context.number
    ((has_adopted r.log topic, AlreadyMade) ∷ (not (has_entered r.log topic), NotEntered) ∷ (is_foreign r.me (group_at r topic.context.number) r.log topic d, NotMember) ∷ [])

-- why a test of the request of this number is refused
abbrev pub IsTestRefusal : List Entry → ℕ → CallError → Type 0
IsTestRefusal log id Stopped = is_stopped log ≡ true
IsTestRefusal log id NoRequest = (is_stopped log ≡ false) × IsNoRequest log id
IsTestRefusal log id _ = ⊥
