-- Worlds of whose players none lacked memory.
use Rattle.std.specs.Prelude.{ℕ, ◌<◌, length}
use Rattle.ulfm_script.specs.Fed.{IsFed}
use Rattle.ulfm_world.specs.World.{World, player_at}

-- none of its players lacked memory
pub record IsSound (w : World) : Type 0 where
  pub fed : (r : ℕ) → r < length w.players → IsFed (player_at w r)
