-- What a rank that went through its script reports.
use Rattle.std.specs.Prelude.{◌≡◌, ◌≤◌, ℕ, [], map, All}
use Rattle.ulfm_log.specs.Facts.{took}
use Rattle.ulfm_job.specs.Job.{JobView}
use Rattle.ulfm_script.specs.Meant.{played_script}
use Rattle.ulfm_answer.specs.Report.{Report}
use Rattle.ulfm_script.specs.Script.{reported_step, through_stop, GivesUpRightly, IsPatient}
use Rattle.ulfm_answer.specs.Reacting.{SkipsRightly}

-- The rank k of a job went through its script, up to and with the first stop that it played, or through the whole of it; a step was given
-- up only where as many polls as the job grants left it open, or where the job lets it be given up before, and skipped exactly where none
-- of its conditions held of the answers before it. A step that names an earlier one was played on the communicator that this one made. It
-- took items of the job's ranks alone.
pub record FollowsScript (job : JobView) (k : ℕ) (report : Report) : Type 0 where
  pub counted : report.rank.ranks ≡ job.ranks
  pub within : (s : ℕ) → job.ranks ≤ s → took report.rank.log s ≡ []
  pub steps : map reported_step report.steps ≡ through_stop report.steps (played_script job k report.steps)
  pub patient : All (IsPatient job.turns) report.steps
  pub gives : GivesUpRightly job k report.steps
  pub skips : SkipsRightly job.conditions k report.steps
