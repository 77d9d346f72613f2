-- What a rank's thread gives back.
use Rattle.std.specs.Prelude.{◌≡◌, ℕ, List, map, All}
use Rattle.ulfm_base.specs.declared.item.Item.{Item}
use Rattle.ulfm_job.specs.Job.{JobView}
use Rattle.ulfm_script.specs.Meant.{played_script}
use Rattle.ulfm_answer.specs.Report.{Report}
use Rattle.ulfm_answer.specs.Reacting.{SkipsRightly}
use Rattle.ulfm_script.specs.Script.{reported_step, through_stop, GivesUpRightly, IsPatient}
use Rattle.ulfm_rank.specs.Joined.{IsJoined}

-- A rank's script was played, up to and with the first stop that it played, or the whole of it; its steps were skipped exactly where none of
-- their conditions held. It is the same end that comes back: what left the outboxes of the rank is what it pushed, and what the log took is what it took.
pub record IsPlayed {E N : Type 0} (name : E → N) (place count : E → ℕ) (pushed taken : E → ℕ → List Item) (ready : E → Type 0) (job : JobView) (before : E) (report : Report) (after : E) : Type 0 where
  pub same_end : name after ≡ name before
  pub joined : IsJoined place count pushed taken ready report.rank after
  pub named : report.rank.me ≡ place before
  pub counted : report.rank.ranks ≡ job.ranks
  pub steps : map reported_step report.steps ≡ through_stop report.steps (played_script job (place before) report.steps)
  pub patient : All (IsPatient job.turns) report.steps
  pub gives : GivesUpRightly job (place before) report.steps
  pub skips : SkipsRightly job.conditions (place before) report.steps
