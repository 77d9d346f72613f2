-- The world that players with their places, inboxes and decisions make.
use Rattle.std.specs.Prelude.{◌≡◌, ◌<◌, ℕ, List, [], ◌∷◌, ◌++◌, length, map, take, slice_index_or}
use Rattle.ulfm_base.specs.declared.rank.WorldRank.{WorldRank}
use Rattle.ulfm_base.specs.declared.item.Item.{Item}
use Rattle.ulfm_base.specs.Items.{items_from}
use Rattle.ulfm_board.specs.Known.{Known}
use Rattle.ulfm_script.specs.Player.{Player, PlayerView}
use Rattle.ulfm_world.specs.declared.event.Refused.{Refused}
use Rattle.ulfm_world.specs.declared.event.Refused.TheVariants.{InboxFull, OutOfMemory}
use Rattle.ulfm_world.specs.declared.room.Room.{Room}
use Rattle.ulfm_world.specs.Room.{HasRoom, IsFull}
use Rattle.ulfm_world.specs.World.{World}

-- a player without its places
abbrev pub the_player : PlayerView → Player
the_player v = v.player

-- players without their places
abbrev pub players_of : List PlayerView → List Player
players_of views = map the_player views

-- the world of these parts
abbrev pub parts : List PlayerView → List (List (WorldRank × Item)) → Room → Known → World
parts views inboxes room decided = record { players = players_of views; inboxes = inboxes; room = room; decided = decided }

-- why an inbox takes no further item of s
abbrev pub IsUnfit : List (WorldRank × Item) → Room → ℕ → Refused → Type 0
IsUnfit items room s InboxFull = IsFull room s items
IsUnfit items room s OutOfMemory = HasRoom room s items
IsUnfit items room s _ = ⊥

-- the first item of s among these stands at this place
pub record IsFirstOf (s : ℕ) (items : List (WorldRank × Item)) (k : ℕ) : Type 0 where
  pub inside : k < length items
  pub is_source : (x : WorldRank × Item) → (slice_index_or items k x).0.number ≡ s
  pub of_others : items_from s (take k items) ≡ []

-- the first item of s among these goes out, past those of others
pub record IsTakenOut (items : List (WorldRank × Item)) (s : ℕ) (x : WorldRank × Item) (left : List (WorldRank × Item)) : Type 0 where
  pub is_source : x.0.number ≡ s
  pub passed : List (WorldRank × Item)
  pub rest : List (WorldRank × Item)
  pub found : items ≡ passed ++ x ∷ rest
  pub of_others : items_from s passed ≡ []
  pub still : left ≡ passed ++ rest
