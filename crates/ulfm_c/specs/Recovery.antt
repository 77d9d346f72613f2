-- What calls by C on failures, revocations, and entries into shrinks and agreements do (ULFM).
use Rattle.std.specs.Prelude.{◌≡◌, ℕ, Bool, ⊤, [], Some, None, min, if◌then◌else◌}
use Rattle.ulfm_c.specs.Calls.{Answers, Checked, CommCall}
use Rattle.ulfm_c.specs.Told.{listed}
use Rattle.ulfm_c.specs.declared.c_status.CGroup.{CGroup}
use Rattle.ulfm_c.specs.View.{ProcessView, with_rank}
use Rattle.ulfm_rank.specs.Calls.{Enters, acknowledging, revoking}
use Rattle.ulfm_rank.specs.Checks.{Fails, Passes, agree_checks, comm_checks, group_at, shrink_checks}
use Rattle.ulfm_log.specs.Facts.{ack_answer, is_revoked, known_in}
use Rattle.ulfm_log.specs.Proposal.{next_agreement, next_shrink}
use Rattle.ulfm_log.specs.declared.entry.Comm.{Comm}

-- a communicator is revoked
abbrev pub RevokeCall : ProcessView → ProcessView → ℕ → ℕ → Type 0
RevokeCall old new comm code = CommCall old new comm code ⊤ (λ c.
    Checked old new code ⊤ (comm_checks old.rank c.context.number []) (new ≡ with_rank old (revoking old.rank c.context)))

-- a call that reads of a communicator tells this, and changes nothing
abbrev pub ReadCall : ProcessView → ProcessView → ℕ → ℕ → Type 0 → (Comm → Type 0) → Type 0
ReadCall old new comm code kept told = CommCall old new comm code kept (λ c.
    Answers old new code kept (Passes (comm_checks old.rank c.context.number []) × told c × (new ≡ old)) (Fails (comm_checks old.rank c.context.number [])))

-- whether a communicator is revoked is told by 1 or 0
abbrev pub IsRevokedCall : ProcessView → ProcessView → ℕ → ℕ → ℕ → ℕ → Type 0
IsRevokedCall old new comm before revoked code = ReadCall old new comm code (revoked ≡ before) (λ c. revoked ≡ (if is_revoked old.rank.log c.context.number then 1 else 0))

-- the members that are known to have failed are told, in the order in which their notices were taken
abbrev pub FailedCall : ProcessView → ProcessView → ℕ → CGroup → CGroup → ℕ → Type 0
FailedCall old new comm before failed code = ReadCall old new comm code (failed ≡ before) (λ c. failed ≡ listed (known_in old.rank.log (group_at old.rank c.context.number)))

-- failures are acknowledged, and how many are now is told
abbrev pub AckCall : ProcessView → ProcessView → ℕ → ℕ → ℕ → ℕ → ℕ → Type 0
AckCall old new comm count before total code = CommCall old new comm code (total ≡ before) (λ c.
    Checked old new code (total ≡ before) (comm_checks old.rank c.context.number [])
    ((total ≡ ack_answer old.rank.log (group_at old.rank c.context.number) c.context.number (min count 255)) × (new ≡ with_rank old (acknowledging old.rank c.context total))))

-- the next shrink of a communicator is entered, also a further one if that is asked for
abbrev pub EnterShrinkCall : ProcessView → ProcessView → ℕ → Bool → ℕ → Type 0
EnterShrinkCall old new comm again code = CommCall old new comm code ⊤ (λ c.
    Checked old new code ⊤ (shrink_checks again old.rank c.context) (Enters old.rank (next_shrink old.rank.log c.context) None new.rank × (new ≡ with_rank old new.rank)))

-- the next agreement on a communicator is entered, with a flag
abbrev pub EnterAgreeCall : ProcessView → ProcessView → ℕ → ℕ → ℕ → Type 0
EnterAgreeCall old new comm flag code = CommCall old new comm code ⊤ (λ c.
    Checked old new code ⊤ (agree_checks old.rank c.context) (Enters old.rank (next_agreement old.rank.log c.context) (Some flag) new.rank × (new ≡ with_rank old new.rank)))
