-- What a replay reaches: each rank goes through its script, until nothing is left to do.
use Rattle.std.specs.Prelude.{◌≡◌, ℕ, List, [], ◌<◌, length, slice_index_or, Some}
use Rattle.ulfm_base.specs.declared.decision.Decision.{Decision}
use Rattle.ulfm_base.specs.declared.topic.Topic.{Topic}
use Rattle.ulfm_board.specs.Known.{known_at}
use Rattle.ulfm_script.specs.Deciding.{Known}
use Rattle.ulfm_answer.specs.Report.{Report}
use Rattle.ulfm_script.specs.Script.{HasFinished}
use Rattle.ulfm_job.specs.Job.{JobView}
use Rattle.ulfm_world.specs.declared.room.Room.TheVariants.{PerInbox}
use Rattle.ulfm_world.specs.World.{World, player_at, Reaches, start_world, reports_in}
use Rattle.ulfm_report_laws.specs.Lawful.{KnowAtRest, LawfulReport}
use Rattle.ulfm_world.specs.Rest.{IsAtRest}
use Rattle.ulfm_world.specs.Made.{MadeSafely}
use Rattle.ulfm_world.specs.Safe.{KeepsDecisions, decided_at}

-- each player answered its script
abbrev pub AllHaveFinished : JobView → World → Type 0
AllHaveFinished j w = (r : ℕ) → r < length w.players → HasFinished j r (player_at w r)

-- The reports of a world at rest, to which some schedule of the job's ranks and inboxes leads, in which each answered its script.
pub record IsReplayed (j : JobView) (reports : List Report) : Type 0 where
  pub world : World
  pub reaches : Reaches (start_world j.ranks (PerInbox j.capacity)) world
  pub rests : IsAtRest world
  pub answered : AllHaveFinished j world
  pub reported : reports ≡ reports_in world

-- What a replay gives, of the world that it ended in: the reports are lawful with what is left in its inboxes, and with decisions
-- known for each rank that are held there. At that rest each running rank knows each stopped one, all agree on revocations, and
-- running members of a communicator whose shrink all of them entered have proposals. Shrinks were safe, and each decision held there
-- was safe when its schedule made it. A run of threads may end before rest, and shows its decisions in reports alone.
pub record MadeAtRest (j : JobView) (reports : List Report) : Type 0 where
  pub replayed : IsReplayed j reports
  pub knows : List Known
  pub held : (r : ℕ) (topic : Topic) (d : Decision) → r < length replayed.world.players → known_at (slice_index_or knows r []) topic ≡ Some d → decided_at replayed.world topic ≡ Some d
  pub lawful : LawfulReport j replayed.world.inboxes knows reports
  pub known : KnowAtRest reports
  pub safe : KeepsDecisions replayed.world
  pub made : MadeSafely (start_world j.ranks (PerInbox j.capacity)) replayed.reaches.0 replayed.world
