-- Rings, with room for each pair of ranks: such worlds give all that whole inboxes give.
use Rattle.std.specs.Prelude.{◌≡◌, ℕ, List, [], ◌∷◌, ◌⊎◌}
use Rattle.ulfm_world.specs.declared.event.Event.{Event}
use Rattle.ulfm_world.specs.declared.event.Event.TheVariants.{Take, TakeFrom}
use Rattle.ulfm_world.specs.declared.room.Room.TheVariants.{PerPair}
use Rattle.ulfm_world.specs.Room.{places}
use Rattle.ulfm_world.specs.World.{World, start_world, Happens, Run}

-- a world on rings: its players, inboxes and decisions, where each pair of ranks has the places that an inbox had
abbrev pub on_rings : World → World
on_rings w = record { players = w.players; inboxes = w.inboxes; room = PerPair (places w.room); decided = w.decided }

-- an event, and what it is on rings: a take names the sender of what it takes
abbrev pub IsSameOnRings : Event → Event → Type 0
IsSameOnRings (Take r) same = (s : ℕ) × (same ≡ TakeFrom r s)
IsSameOnRings event same = same ≡ event

-- what happens to a world happens to it on rings, by the same event
pub record HappensOnRings (old : World) (event : Event) (new : World) : Type 0 where
  pub same : Event
  pub is_same : IsSameOnRings event same
  pub happens : Happens (on_rings old) same (on_rings new)

-- the later events are these on rings, in their order, without some of them
abbrev pub AreOnRings : List Event → List Event → Type 0
AreOnRings [] later = later ≡ []
AreOnRings (event ∷ events) later =
    AreOnRings events later ⊎ ((same : Event) × (rest : List Event) × IsSameOnRings event same × (later ≡ same ∷ rest) × AreOnRings events rest)

-- A schedule of n ranks with inboxes of these places, and what it leads to. On rings of as many places these events lead there too,
-- without those that were refused.
pub record IsRunOnRings (n capacity : ℕ) (events : List Event) (w : World) : Type 0 where
  pub schedule : List Event
  pub are_same : AreOnRings events schedule
  pub run : Run (start_world n (PerPair capacity)) schedule (on_rings w)
