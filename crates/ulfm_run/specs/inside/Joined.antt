-- A rank and its end of a carrier, which go together.
use Rattle.std.specs.Prelude.{◌≡◌, ℕ, List, ◌<◌, ◌≤◌, ◌+◌, length}
use Rattle.ulfm_base.specs.declared.item.Item.{Item}
use Rattle.ulfm_log.specs.Facts.{is_stopped}
use Rattle.ulfm_rank.specs.Joined.{IsJoined}
use Rattle.ulfm_job.specs.Job.{JobView, script_at}
use Rattle.ulfm_script.specs.Player.{PlayerView, with_rank}
use Rattle.ulfm_script.specs.inside.Underway.{GoesThrough, polls_left}
use Rattle.ulfm_script.specs.inside.SoFar.{OnlyTakes}
use Rattle.ulfm_rank.specs.inside.Quiet.{Quiet}

-- Items went from a player to its end, or from the end to the player.
pub record Moves {E N : Type 0} (name : E → N) (place count : E → ℕ) (pushed taken : E → ℕ → List Item) (ready : E → Type 0) (old : PlayerView) (before : E) (new : PlayerView) (after : E) : Type 0 where
  pub same_end : name after ≡ name before
  pub joined : IsJoined place count pushed taken ready new.player.rank after
  pub me : new.player.rank.me ≡ old.player.rank.me
  pub ranks : new.player.rank.ranks ≡ old.player.rank.ranks
  pub stops : is_stopped new.player.rank.log ≡ is_stopped old.player.rank.log
  pub only : new.player ≡ with_rank old.player new.player.rank
  pub room : new.room ≡ old.room
  pub takes : OnlyTakes old.player.rank.log new.player.rank.log

-- One poll of the next step: nothing goes from or to the player, and fewer polls are left.
pub record Polls (job : JobView) (me : ℕ) (old new : PlayerView) : Type 0 where
  pub quiet : Quiet old.player.rank new.player.rank
  pub follows : GoesThrough job me new.player
  pub room : new.room + length new.player.done ≡ old.room + length old.player.done
  pub falls : polls_left (script_at job me) job.turns new.player < polls_left (script_at job me) job.turns old.player

-- The next steps were skipped, as far as they aren't to be played: the rank is the same, and no more polls are left.
pub record SkipsOn (job : JobView) (me : ℕ) (old new : PlayerView) : Type 0 where
  pub same_rank : new.player.rank ≡ old.player.rank
  pub follows : GoesThrough job me new.player
  pub room : new.room + length new.player.done ≡ old.room + length old.player.done
  pub left : polls_left (script_at job me) job.turns new.player ≤ polls_left (script_at job me) job.turns old.player

-- the rank `me` of a job on its way through its script, with its end
pub record IsAtWork {E : Type 0} (place count : E → ℕ) (pushed taken : E → ℕ → List Item) (ready : E → Type 0) (job : JobView) (me : ℕ) (v : PlayerView) (end : E) : Type 0 where
  pub joined : IsJoined place count pushed taken ready v.player.rank end
  pub named : v.player.rank.me ≡ me
  pub counted : v.player.rank.ranks ≡ job.ranks
  pub follows : GoesThrough job me v.player
  pub room : length (script_at job me) ≤ v.room + length v.player.done
