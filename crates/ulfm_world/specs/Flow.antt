-- What every world keeps.
use Rattle.std.specs.Prelude.{◌≡◌, ℕ, List, ◌++◌, ◌<◌, ◌≤◌, length, All}
use Rattle.ulfm_base.specs.declared.rank.WorldRank.{WorldRank}
use Rattle.ulfm_base.specs.declared.item.Item.{Item}
use Rattle.ulfm_log.specs.Facts.{took, IsSigned}
use Rattle.ulfm_log.specs.State.{IsState, went_out}
use Rattle.ulfm_rank.specs.Calls.{IsFrom}
use Rattle.ulfm_world.specs.World.{World, rank_at, inbox_at}
use Rattle.ulfm_base.specs.Items.{items_from}

-- the items that d took from s, then those of s left in the inbox of d
abbrev pub arrived : World → ℕ → ℕ → List Item
arrived w s d = took (rank_at w d).log s ++ items_from s (inbox_at w d)

-- an item of an inbox came from one of n ranks, and a letter bears its sender's number
abbrev pub IsPosted : ℕ → WorldRank × Item → Type 0
IsPosted n x = (x.0.number < n) × IsFrom x.0 x.1

-- what every world keeps
pub record IsWorld (w : World) : Type 0 where
  pub small : length w.players ≤ 8
  pub as_many : length w.inboxes ≡ length w.players
  pub named : (r : ℕ) → r < length w.players → (rank_at w r).me ≡ r
  pub counted : (r : ℕ) → r < length w.players → (rank_at w r).ranks ≡ length w.players
  pub sound : (r : ℕ) → r < length w.players → IsState (rank_at w r)
  pub signed : (r : ℕ) → r < length w.players → All (IsSigned r) (rank_at w r).log
  pub posted : (r : ℕ) → r < length w.players → All (IsPosted (length w.players)) (inbox_at w r)
  pub passed_on : (s d : ℕ) → s < length w.players → d < length w.players → went_out (rank_at w s) d ≡ arrived w s d
