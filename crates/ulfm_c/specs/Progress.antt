-- What a turn by C does, and what is told of what goes out.
use Rattle.std.specs.Prelude.{◌≡◌, ℕ, ◌<◌, ◌⊎◌, [], Bool, true, false}
use Rattle.ulfm_c.specs.Turning.{IsTurn, LeavesRoom}
use Rattle.ulfm_c.specs.View.{ProcessView, ReadyView}
use Rattle.ulfm_log.specs.Facts.{is_gone, is_stopped}
use Rattle.ulfm_log.specs.State.{outbox}

-- whether something is so is told by 1 or 0
abbrev pub TellsWhether : ℕ → (Bool → Type 0) → Type 0
TellsWhether told is = ((told ≡ 1) × is true) ⊎ ((told ≡ 0) × is false)

-- With 0 the process had a turn, and it is told by 1 or 0 whether anything moved: where nothing did, the next turn has room. With 12 the rank
-- runs and had none, and nothing changed.
abbrev pub TurnCall : ReadyView → ReadyView → ℕ → ℕ → ℕ → Type 0
TurnCall old new before moved code =
    ((code ≡ 0) × TellsWhether moved (IsTurn old.view new.view) × (moved ≡ 0 → LeavesRoom old new))
    ⊎ ((code ≡ 12) × (is_stopped old.view.rank.log ≡ false) × (old.ready ≡ false) × (new.view ≡ old.view) × (moved ≡ before))

-- nothing waits to go out to a rank that isn't known to have failed; what is known to a rank that stopped is what it knew then
abbrev pub IsFlushed : ProcessView → Type 0
IsFlushed p = (d : ℕ) → d < p.rank.ranks → is_gone p.rank.log d ≡ false → outbox p.rank d ≡ []

-- 1 where nothing waits to go out so, else 0
abbrev pub TellsFlushed : ProcessView → ℕ → Type 0
TellsFlushed p told = ((told ≡ 1) × IsFlushed p) ⊎ ((told ≡ 0) × (IsFlushed p → ⊥))
