-- A replay on its way: where its rounds stand, and what falls with each event.
use Rattle.std.specs.Prelude.{◌≡◌, ℕ, zero, suc, Bool, true, false, List, [], ◌∷◌, ◌+◌, ◌*◌, ◌<◌, ◌≤◌, ◌⊎◌, length, Option, Some, None, slice_index_or, if◌then◌else◌}
use Rattle.ulfm_log.specs.Facts.{is_revoked}
use Rattle.ulfm_log.specs.State.{State, outbox}
use Rattle.ulfm_log.specs.declared.entry.Entry.{Entry}
use Rattle.ulfm_base.specs.Group.{numbers_from}
use Rattle.ulfm_job.specs.declared.step.Step.{Step}
use Rattle.ulfm_script.specs.Player.{Player}
use Rattle.ulfm_script.specs.inside.Underway.{GoesThrough, polls_left}
use Rattle.ulfm_job.specs.Job.{JobView, script_at}
use Rattle.ulfm_world.specs.declared.room.Room.TheVariants.{PerInbox}
use Rattle.ulfm_world.specs.Room.{IsFull}
use Rattle.ulfm_world.specs.World.{World, player_at, rank_at, inbox_at, IsRunning, Reaches, start_world}
use Rattle.ulfm_base.specs.declared.decision.Decision.{Decision}
use Rattle.ulfm_base.specs.declared.topic.Topic.{Topic}
use Rattle.ulfm_board.specs.Known.{known_at}
use Rattle.ulfm_script.specs.Deciding.{Known}
use Rattle.ulfm_script.specs.inside.SoFar.{AnswersFollowSoFar}

-- each player goes through its script
abbrev pub Follows : JobView → World → Type 0
Follows j w = (r : ℕ) → r < length w.players → GoesThrough j r (player_at w r)

-- f 0 + f 1 + .., below n
abbrev pub sum_below : ℕ → (ℕ → ℕ) → ℕ
sum_below zero f = 0
sum_below (suc n) f = sum_below n f + f n

-- what n outboxes of a rank hold
abbrev pub out_at : ℕ → State → ℕ
out_at n r = sum_below n (λ d. 2 * length (outbox r d))

-- what the first revocation of a context may still send, at a rank with this log
abbrev pub fresh_at : List Entry → ℕ → ℕ
fresh_at log c = if is_revoked log c then 0 else 17

-- what the first revocations of these contexts may still send
abbrev pub fresh_of : List ℕ → List Entry → ℕ
fresh_of [] log = 0
fresh_of (c ∷ contexts) log = fresh_at log c + fresh_of contexts log

-- all contexts
unfoldable pub all_contexts : List ℕ
all_contexts = numbers_from 0 35184372088832

-- what falls with each event: of a player
abbrev pub weight_of : List Step → ℕ → ℕ → Player → ℕ
weight_of script turns n p = 17 * polls_left script turns p + (out_at n p.rank + fresh_of all_contexts p.rank.log)

-- what falls with each event, of the player r
abbrev pub weight_at : JobView → World → ℕ → ℕ
weight_at j w r = weight_of (script_at j r) j.turns (length w.players) (player_at w r)

-- what an inbox holds
abbrev pub inbox_weight : World → ℕ → ℕ
inbox_weight w d = length (inbox_at w d)

-- and of a world
abbrev pub measure : JobView → World → ℕ
measure j w = sum_below (length w.players) (weight_at j w) + sum_below (length w.players) (inbox_weight w)

-- what is known for the rank r
abbrev pub known_for : List Known → ℕ → Known
known_for knows r = slice_index_or knows r []

-- Of each player this holds, with what is known for its rank, each of which is held.
pub record AllSoFar (Holds : Known → Player → Type 0) (w : World) : Type 0 where
  pub knows : List Known
  pub many : length knows ≡ length w.players
  pub held : (r : ℕ) (topic : Topic) (d : Decision) → r < length w.players → known_at (known_for knows r) topic ≡ Some d → known_at w.decided topic ≡ Some d
  pub honest : (r : ℕ) → r < length w.players → Holds (known_for knows r) (player_at w r)

-- Each player's answers are right so far, where a decision is one that is known for its rank, and held.
abbrev pub AllAnswersFollowSoFar : World → Type 0
AllAnswersFollowSoFar w = AllSoFar AnswersFollowSoFar w

-- from old to new, where something moved or nothing did
pub record Moves (j : JobView) (old new : World) (moved : Bool) : Type 0 where
  pub reaches : Reaches old new
  pub size : length new.players ≡ length old.players
  pub room : new.room ≡ old.room
  pub follows : Follows j old → Follows j new
  pub answers : Follows j old → AllAnswersFollowSoFar old → AllAnswersFollowSoFar new
  pub falls : moved ≡ true → Follows j old → measure j new < measure j old
  pub stays : moved ≡ false → new ≡ old

-- nothing of s can go to d
abbrev pub IsPushStuck : World → ℕ → ℕ → Type 0
IsPushStuck w s d = (outbox (rank_at w s) d ≡ []) ⊎ IsFull w.room s (inbox_at w d)

-- nothing of r can go to the rank d; with none, r can take nothing
abbrev pub IsStuckAt : World → ℕ → Option ℕ → Type 0
IsStuckAt w r (Some d) = IsPushStuck w r d
IsStuckAt w r None = IsRunning w r → inbox_at w r ≡ []

-- the player r can do nothing
pub record IsStuck (j : JobView) (w : World) (r : ℕ) : Type 0 where
  pub pushes : (d : ℕ) → d < length w.players → IsPushStuck w r d
  pub takes : IsRunning w r → inbox_at w r ≡ []
  pub polls : IsRunning w r → length (script_at j r) ≤ length (player_at w r).done

-- a world on the way of a replay
pub record IsUnderway (j : JobView) (w : World) : Type 0 where
  pub reaches : Reaches (start_world j.ranks (PerInbox j.capacity)) w
  pub size : length w.players ≡ j.ranks
  pub room : w.room ≡ PerInbox j.capacity
  pub follows : Follows j w
  pub answers : AllAnswersFollowSoFar w
