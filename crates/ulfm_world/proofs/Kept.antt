-- What a world keeps because some schedule leads to it.
use Rattle.std.proofs.Common.{◌≡◌, Result, OnOk, OnErr}
use Rattle.ulfm_world.proofs.Common.{Event, World, Happens, IsReached, IsWorld}
use Rattle.ulfm_world.specs.inside.Steps.{IsKeptWorld}
use Rattle.ulfm_world.proofs.Read.{world-reached}
use Rattle.ulfm_world.proofs.Runs.{reaches-either}

pub world_of : {w : World} → IsReached w → IsWorld w
world_of {w} h = world-reached h.ranks h.room w h.few h.schedule

pub kept-reached : (w : World) → IsReached w → IsKeptWorld w
kept-reached w h = record { world = world_of h; reached = h }

-- a world after an event that happened or was refused
pub kept-either : {A E : Type 0} (r : Result A E) {w : World} (w' : World) (event : Event) → IsKeptWorld w → OnOk r (Happens w event w') → OnErr r (w' ≡ w) → IsKeptWorld w'
kept-either r {w} w' event h k e = kept-reached w' (reaches-either r w w' event h.reached k e)
