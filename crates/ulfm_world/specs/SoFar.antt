-- What the ranks of a world tell so far is lawful.
use Rattle.std.specs.Prelude.{◌≡◌, ℕ, List, [], ◌<◌, length, Some, slice_index_or}
use Rattle.ulfm_base.specs.declared.decision.Decision.{Decision}
use Rattle.ulfm_base.specs.declared.topic.Topic.{Topic}
use Rattle.ulfm_board.specs.Known.{known_at}
use Rattle.ulfm_answer.specs.Report.{Report}
use Rattle.ulfm_script.specs.Deciding.{Known}
use Rattle.ulfm_script.specs.GivenUp.{given_up, TellTheSame}
use Rattle.ulfm_script.specs.Player.{Player}
use Rattle.ulfm_report_laws.specs.Lawful.{LawfulSoFar}
use Rattle.ulfm_report_laws.specs.Reports.{report_at}
use Rattle.ulfm_world.specs.Safe.{decided_at}
use Rattle.ulfm_world.specs.World.{World, player_at}

-- A report has the rank of this player, its steps and their answers. A step that stands open is told as one that is given up.
pub record IsToldBy (p : Player) (told : Report) : Type 0 where
  pub rank : told.rank ≡ p.rank
  pub steps : TellTheSame told.steps (given_up p).done

-- Reports of a world, one of each rank, are lawful so far, with what its inboxes hold, and with decisions known for each rank that are held there. A
-- poll of a shrink or an agreement that was entered before, and that stays open, is told as if it hadn't been.
pub record IsLawfulSoFar (w : World) : Type 0 where
  pub reports : List Report
  pub many : length reports ≡ length w.players
  pub told : (r : ℕ) → r < length w.players → IsToldBy (player_at w r) (report_at reports r)
  pub knows : List Known
  pub held : (r : ℕ) (topic : Topic) (d : Decision) → r < length w.players → known_at (slice_index_or knows r []) topic ≡ Some d → decided_at w topic ≡ Some d
  pub lawful : LawfulSoFar w.inboxes knows reports
