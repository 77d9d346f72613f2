-- What contracts see of a rank's report.
use Rattle.std.specs.Prelude.{ℕ, Bool, true, false, List}
use Rattle.ulfm_log.specs.State.{State}
use Rattle.ulfm_answer.specs.declared.answer.StepAnswer.{StepAnswer}
use Rattle.ulfm_answer.specs.declared.answer.StepAnswer.TheVariants.{Unfinished, Skipped}
use Rattle.ulfm_answer.specs.declared.answer.StepReport.{StepReport}

-- a rank as it stood at the end, its answered steps, and how many of its turns took nothing since no memory was found
pub record Report : Type 0 where
  pub rank : State
  pub steps : List StepReport
  pub starved : ℕ

-- the answer of a step that was given up
abbrev pub is_unfinished : StepAnswer → Bool
is_unfinished Unfinished = true
is_unfinished _ = false

-- the answer of a step that wasn't played
abbrev pub is_skipped : StepAnswer → Bool
is_skipped Skipped = true
is_skipped _ = false
