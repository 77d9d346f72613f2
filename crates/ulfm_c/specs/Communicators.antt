-- What calls by C on communicators and their groups do (MPI 4.0, chapter 7).
use Rattle.std.specs.Prelude.{◌≡◌, ℕ, Bool, ◌⊎◌, List, Some, None}
use Rattle.ulfm_base.specs.Context.{nth_dup}
use Rattle.ulfm_base.specs.Group.{rank_in}
use Rattle.ulfm_base.specs.declared.error.CallError.{CallError}
use Rattle.ulfm_base.specs.declared.error.CallError.TheVariants.{NoComm, NotMember}
use Rattle.ulfm_c.specs.Calls.{Answers, Checked, CommCall}
use Rattle.ulfm_c.specs.Told.{listed}
use Rattle.ulfm_c.specs.declared.c_status.CGroup.{CGroup}
use Rattle.ulfm_c.specs.View.{ProcessView, with_rank}
use Rattle.ulfm_rank.specs.Checks.{dup_checks}
use Rattle.ulfm_log.specs.Communicators.{dups_of, group_of}
use Rattle.ulfm_log.specs.State.{logged}
use Rattle.ulfm_log.specs.declared.entry.Comm.{Comm}
use Rattle.ulfm_log.specs.declared.entry.Entry.TheVariants.{Duplicated}

-- a communicator has this group
abbrev pub HasGroup : ProcessView → Comm → List ℕ → Type 0
HasGroup p c members = group_of p.rank.ranks p.rank.log c.context.number ≡ Some members

-- there is no such communicator
abbrev pub Lacks : ProcessView → Comm → CallError → Type 0
Lacks p c e = (e ≡ NoComm) × (group_of p.rank.ranks p.rank.log c.context.number ≡ None)

-- the group of a communicator is told
abbrev pub GroupCall : ProcessView → ProcessView → ℕ → CGroup → CGroup → ℕ → Type 0
GroupCall old new comm before group code = CommCall old new comm code (group ≡ before) (λ c.
    Answers old new code (group ≡ before) ((members : List ℕ) × HasGroup old c members × (group ≡ listed members) × (new ≡ old)) (Lacks old c))

-- a communicator is duplicated, also by a further duplicate if that is asked for, and the number of the duplicate told
abbrev pub DupCall : ProcessView → ProcessView → ℕ → Bool → ℕ → ℕ → ℕ → Type 0
DupCall old new comm again before made code = CommCall old new comm code (made ≡ before) (λ c.
    Checked old new code (made ≡ before) (dup_checks again old.rank c.context.number)
    ((made ≡ nth_dup (dups_of old.rank.log c.context.number) c.context.number)
    × (new ≡ with_rank old (logged old.rank (Duplicated c.context (dups_of old.rank.log c.context.number))))))

-- the rank is no member of a communicator
abbrev pub IsOutside : ProcessView → Comm → CallError → Type 0
IsOutside p c e = (e ≡ NotMember) × (members : List ℕ) × HasGroup p c members × (rank_in members p.rank.me ≡ None)

-- the rank's position in a communicator is told
abbrev pub PositionCall : ProcessView → ProcessView → ℕ → ℕ → ℕ → ℕ → Type 0
PositionCall old new comm before at code = CommCall old new comm code (at ≡ before) (λ c.
    Answers old new code (at ≡ before)
    ((members : List ℕ) × HasGroup old c members × (rank_in members old.rank.me ≡ Some at) × (new ≡ old))
    (λ e. Lacks old c e ⊎ IsOutside old c e))
