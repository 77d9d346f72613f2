-- Ranks that die at any moment, whatever they are doing, and the places of their job.
use Rattle.std.specs.Prelude.{◌≡◌, ◌≢◌, ◌<◌, ℕ, zero, suc, List, Contains}
use Rattle.ulfm_job.specs.Job.{IsJob, JobView, step_count}
use Rattle.ulfm_job.specs.Place.{job_at}
use Rattle.ulfm_job.specs.Places.{places_of}
use Rattle.ulfm_job.specs.declared.place.Place.TheVariants.{One}
use Rattle.ulfm_job.specs.declared.stop.Stop.{Stop}
use Rattle.ulfm_log.specs.State.{logged}
use Rattle.ulfm_log.specs.declared.entry.Entry.TheVariants.{Stopped}
use Rattle.ulfm_script.specs.Player.{with_rank}
use Rattle.ulfm_world.specs.World.{IsLive, World, player_at, rank_at, with_player}
use Rattle.ulfm_world.specs.declared.event.Event.{Event}
use Rattle.ulfm_reduction_laws.specs.Late.{IsEnd}
use Rattle.ulfm_reduction_laws.specs.Obeying.{ComesTo, Obeying}

-- a rank that runs dies: what it owes is lost, its notice is left for each other rank, and the step that it was in gets no answer
pub record Dies (old : World) (r : ℕ) (new : World) : Type 0 where
  pub live : IsLive old r
  pub only : new ≡ with_player old r (with_rank (player_at old r) (logged (rank_at old r) Stopped))

-- some schedule of the job in which so many ranks die leads to this world
abbrev pub ComesWithDeaths : ℕ → JobView → World → Type 0
ComesWithDeaths zero j w = ComesTo j w
ComesWithDeaths (suc n) j w =
    (before : World) × (r : ℕ) × (after : World) × (events : List Event) × ComesWithDeaths n j before × Dies before r after × Obeying j after events w

-- The job has a place of one stop, and with that stop a schedule in which so many ranks die. There each other rank does, takes and answers what it does in
-- this world, and nothing can go on where nothing can here.
pub record IsAtSomePlace (n : ℕ) (j : JobView) (w : World) : Type 0 where
  pub stop : Stop
  pub listed : Contains (places_of 1 j) (One stop)
  pub world : World
  pub comes : ComesWithDeaths n (job_at (One stop) j) world
  pub others : (r : ℕ) → r ≢ stop.rank → player_at world r ≡ player_at w r
  pub ends : IsEnd j w → IsEnd (job_at (One stop) j) world

-- Places are every place: of whatever ranks die, and whenever, one dies at a place of the job. So two die at two places, one after the other.
abbrev pub PlacesAreEvery : Type 0
PlacesAreEvery = (j : JobView) (n : ℕ) (w : World) → IsJob j → step_count j.scripts < 256 → ComesWithDeaths (suc n) j w → IsAtSomePlace n j w
