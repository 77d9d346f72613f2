-- A rank that starts.
use Rattle.std.proofs.Common.{◌≡◌, ℕ, ◌≤◌, List, length, ap, sym, subst, arith}
use Rattle.ulfm_rank.proofs.Joining.{joined-start}
use Rattle.ulfm_script.specs.Player.{Player, PlayerView, start_player}
use Rattle.ulfm_run.proofs.Common.{GoesThrough, IsFresh, Item, script_at, JobView, IsState, IsAtWork}
use Rattle.ulfm_script.proofs.Reacting.{goes-start}

-- the rank of a fresh end goes to work
pub at-work-start : {E : Type 0} (place count : E → ℕ) (pushed taken : E → ℕ → List Item) (ready : E → Type 0) (job : JobView) (me : ℕ) (v : PlayerView) {end : E} → IsFresh count pushed taken ready job.ranks end → place end ≡ me → v.player ≡ start_player me job.ranks → IsState v.player.rank → length (script_at job me) ≤ v.room → IsAtWork place count pushed taken ready job me v end
at-work-start place count pushed taken ready job me v {end} fresh at starts sound room =
    record {
      joined = joined-start v.player.rank (ap (λ (p : Player). p.rank) starts) sound fresh.is_ready at fresh.counted fresh.nothing_pushed fresh.nothing_taken;
      named = ap (λ (p : Player). p.rank.me) starts;
      counted = ap (λ (p : Player). p.rank.ranks) starts;
      follows = subst (GoesThrough job me) (sym starts) (goes-start job me me job.ranks);
      room = omega (arith, room);
    }
