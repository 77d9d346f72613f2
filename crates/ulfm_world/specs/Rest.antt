-- A world at rest.
use Rattle.std.specs.Prelude.{◌≡◌, ℕ, [], ◌<◌, length}
use Rattle.ulfm_log.specs.State.{outbox}
use Rattle.ulfm_world.specs.World.{World, rank_at, inbox_at, IsRunning}

-- nothing waits for the rank d: its inbox is empty, and so is each outbox towards it
pub record IsServed (w : World) (d : ℕ) : Type 0 where
  pub inbox : inbox_at w d ≡ []
  pub outboxes : (s : ℕ) → s < length w.players → outbox (rank_at w s) d ≡ []

-- nothing waits for any running rank
pub record IsAtRest (w : World) : Type 0 where
  pub served : (d : ℕ) → d < length w.players → IsRunning w d → IsServed w d
