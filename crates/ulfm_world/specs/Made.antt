-- The moment at which a decision was made (ULFM, shrink and agree).
use Rattle.std.specs.Prelude.{◌≡◌, ℕ, List, ◌∷◌, ◌++◌, Some, None}
use Rattle.ulfm_base.specs.declared.context.Context.{Context}
use Rattle.ulfm_base.specs.declared.decision.Decision.{Decision}
use Rattle.ulfm_base.specs.declared.topic.Topic.{Topic}
use Rattle.ulfm_world.specs.declared.event.Event.{Event}
use Rattle.ulfm_world.specs.declared.event.Event.TheVariants.{Decide}
use Rattle.ulfm_world.specs.Safe.{decided_at, IsSafe}
use Rattle.ulfm_world.specs.World.{World, Happens, Run}

-- One event of this run made the decision on a topic. Before it nothing was decided, after it this decision is held.
-- It was safe before it: each rank that it excludes had stopped.
pub record WasMadeSafely (old : World) (events : List Event) (new : World) (topic : Topic) (d : Decision) : Type 0 where
  pub front : List Event
  pub rank : ℕ
  pub comm : Context
  pub rest : List Event
  pub whole : front ++ Decide rank comm ∷ rest ≡ events
  pub before : World
  pub after : World
  pub came : Run old front before
  pub undecided : decided_at before topic ≡ None
  pub decides : Happens before (Decide rank comm) after
  pub held : decided_at after topic ≡ Some d
  pub went_on : Run after rest new
  pub safe : IsSafe before d

-- each decision that is held after this run was made safely in it
abbrev pub MadeSafely : World → List Event → World → Type 0
MadeSafely old events new = (topic : Topic) (d : Decision) → decided_at new topic ≡ Some d → WasMadeSafely old events new topic d
