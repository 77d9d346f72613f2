-- A rank and its end of a carrier, which go together.
use Rattle.std.specs.Prelude.{◌≡◌, ℕ, List, [], ◌<◌, ◌≤◌, All}
use Rattle.ulfm_base.specs.declared.item.Item.{Item}
use Rattle.ulfm_log.specs.Facts.{took, IsSigned}
use Rattle.ulfm_log.specs.State.{State, IsState, went_out}

-- What left the outboxes of the rank is what its end pushed, and what its log took of each rank is what its end took, and of
-- no other number it took anything.
pub record IsJoined {E : Type 0} (place count : E → ℕ) (pushed taken : E → ℕ → List Item) (ready : E → Type 0) (r : State) (end : E) : Type 0 where
  pub is_ready : ready end
  pub placed : place end ≡ r.me
  pub counted : count end ≡ r.ranks
  pub sound : IsState r
  pub signed : All (IsSigned r.me) r.log
  pub sent : (d : ℕ) → d < r.ranks → pushed end d ≡ went_out r d
  pub within : (s : ℕ) → r.ranks ≤ s → took r.log s ≡ []
  pub took : (s : ℕ) → taken end s ≡ took r.log s
