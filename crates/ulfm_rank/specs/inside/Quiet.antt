-- What a rank keeps while it does something that takes nothing, or lets nothing go out.
use Rattle.std.specs.Prelude.{◌≡◌, ℕ, ◌<◌, All}
use Rattle.ulfm_log.specs.Facts.{took, IsSigned}
use Rattle.ulfm_log.specs.State.{State, IsState, went_out}

-- the rank is the same but for its log, what it sent is signed, and what went out is the same
pub record Calm (old new : State) : Type 0 where
  pub me : new.me ≡ old.me
  pub ranks : new.ranks ≡ old.ranks
  pub sound : IsState new
  pub out : (d : ℕ) → d < old.ranks → went_out new d ≡ went_out old d
  pub signed : All (IsSigned old.me) old.log → All (IsSigned old.me) new.log

-- what was taken is the same too
pub record Quiet (old new : State) : Type 0 where
  pub calm : Calm old new
  pub took : (s : ℕ) → took new.log s ≡ took old.log s
