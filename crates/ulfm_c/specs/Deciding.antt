-- What a poll of a shrink or an agreement by C does (ULFM, shrink and agree).
use Rattle.std.specs.Prelude.{◌≡◌, ℕ, ◌-◌, ◌⊎◌, Some}
use Rattle.ulfm_base.specs.Context.{nth_shrink}
use Rattle.ulfm_base.specs.Decision.{left_out}
use Rattle.ulfm_base.specs.declared.decision.Decision.{Decision}
use Rattle.ulfm_base.specs.declared.error.CallError.{CallError}
use Rattle.ulfm_base.specs.declared.topic.Topic.{Topic}
use Rattle.ulfm_c.specs.Calls.{AreKept, CommCall, number_of}
use Rattle.ulfm_c.specs.Told.{listed}
use Rattle.ulfm_c.specs.declared.c_status.CGroup.{CGroup}
use Rattle.ulfm_c.specs.Adopting.{Adopts, IsPollRefusal, Waits}
use Rattle.ulfm_c.specs.View.{ProcessView}
use Rattle.ulfm_log.specs.Proposal.{last_agreement, last_shrink, shrinks}

-- With 0 the decision on a topic is adopted, and told so. With 17 there is none yet, else it is refused, and what is written to is kept.
abbrev pub Polls : ProcessView → ProcessView → Topic → ℕ → Type 0 → (Decision → Type 0) → Type 0
Polls old new topic code kept told =
    ((code ≡ 0) × (held : Decision) × Adopts old new topic held × told held)
    ⊎ ((code ≡ 17) × Waits old new topic × kept)
    ⊎ ((e : CallError) × (code ≡ number_of e) × IsPollRefusal old new topic e × kept)

-- the shrink of a communicator that was entered last is polled, and the number of the new one told
abbrev pub ShrinkCall : ProcessView → ProcessView → ℕ → ℕ → ℕ → ℕ → Type 0
ShrinkCall old new comm before made code = CommCall old new comm code (made ≡ before) (λ c.
    Polls old new (last_shrink old.rank.log c.context) code (made ≡ before) (λ held. made ≡ nth_shrink (shrinks old.rank.log c.context.number - 1) c.context.number))

-- the agreement that was entered last is polled, and its value told, with the members whose flags aren't in it
abbrev pub AgreeCall : ProcessView → ProcessView → ℕ → ℕ → ℕ → CGroup → CGroup → ℕ → Type 0
AgreeCall old new comm before value all missing code = CommCall old new comm code (AreKept before value all missing) (λ c.
    Polls old new (last_agreement old.rank.log c.context) code (AreKept before value all missing)
    (λ held. (held.value ≡ Some value) × (missing ≡ listed (left_out held.old held.entries))))
