-- What the parts of a turn push.
use Rattle.std.specs.Prelude.{◌≡◌, ◌≢◌, ℕ, ◌≤◌, ◌+◌, ◌==◌, Bool, true, false, cond}
use Rattle.ulfm_base.specs.declared.item.Item.{Item}
use Rattle.ulfm_carrier.specs.Lanes.{known_room}
use Rattle.ulfm_log.specs.State.{GoesOut}
use Rattle.ulfm_c.specs.Turning.{GoesOn, IsStuck, TakesNone}
use Rattle.ulfm_c.specs.View.{ProcessView}

-- nothing more can go out to others than before
abbrev pub OthersStayStuck : ProcessView → ProcessView → ℕ → Type 0
OthersStayStuck old new d = (p : ℕ) → p ≢ d → IsStuck old p → IsStuck new p

-- an item went out to the rank d, or nothing can
pub record PushesOne (old new : ProcessView) (d : ℕ) (moved : Bool) : Type 0 where
  pub went : moved ≡ true → (item : Item) × GoesOut old.rank new.rank d item
  pub stays : moved ≡ false → new.rank ≡ old.rank
  pub stuck : moved ≡ false → IsStuck new d
  pub rooms : (p : ℕ) → known_room old.end p ≤ known_room new.end p + cond moved (cond (d == p) 1 0) 0
  pub others : OthersStayStuck old new d
  pub takes_none : TakesNone old new

-- items went out to the rank d, as long as they could
pub record PushesTo (old new : ProcessView) (d : ℕ) (moved : Bool) : Type 0 where
  pub goes_on : GoesOn old new moved
  pub stuck : IsStuck new d
  pub others : OthersStayStuck old new d
