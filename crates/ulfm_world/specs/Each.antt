-- What holds of reports in every schedule.
use Rattle.std.specs.Prelude.{ℕ, ◌≤◌, List}
use Rattle.ulfm_job.specs.Job.{JobView, IsJob}
use Rattle.ulfm_answer.specs.Report.{Report}
use Rattle.ulfm_world.specs.declared.room.Room.{Room}
use Rattle.ulfm_world.specs.Replay.{IsReplayed}
use Rattle.ulfm_world.specs.World.{World, start_world, Reaches, reports_in}

-- P holds of the reports of each world that some schedule leads to, whatever room inboxes have
abbrev pub InEachWorld : (List Report → Type 0) → Type 0
InEachWorld P = (n : ℕ) (room : Room) (w : World) → n ≤ 8 → Reaches (start_world n room) w → P (reports_in w)

-- P holds of all reports that a replay of a job may give
abbrev pub InEachReplay : (List Report → Type 0) → Type 0
InEachReplay P = (j : JobView) (reports : List Report) → IsJob j → IsReplayed j reports → P reports
