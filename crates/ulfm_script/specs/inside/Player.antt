-- What holds of the fields of a player.
use Rattle.std.specs.Prelude.{◌≢◌, ℕ, ◌<◌, Option, None, IsTrue}
use Rattle.ulfm_job.specs.declared.step.Step.{Step}
use Rattle.ulfm_log.specs.State.{State}

-- its rank keeps its log, and a step that stands open has a place for its answer
pub record IsPlayer (rank : State) (current : Option Step) (answers places : ℕ) : Type 0 where
  pub keeps : IsTrue rank.keeps
  pub has_place : current ≢ None → answers < places
