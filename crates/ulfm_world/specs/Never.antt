-- What is refused doesn't happen.
use Rattle.std.specs.Prelude.{◌≡◌}
use Rattle.ulfm_world.specs.declared.event.Event.{Event}
use Rattle.ulfm_world.specs.declared.event.Refused.{Refused}
use Rattle.ulfm_world.specs.declared.event.Refused.TheVariants.{OutOfMemory}
use Rattle.ulfm_world.specs.World.{World, Happens, IsRefused}

-- what is refused doesn't happen, but where memory runs out
abbrev pub RefusedNeverHappens : Type 0
RefusedNeverHappens = (w : World) (event : Event) (why : Refused) (new : World) → IsRefused w event why → Happens w event new → why ≡ OutOfMemory
