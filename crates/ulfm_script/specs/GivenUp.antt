-- What a player tells while its steps are on their way.
use Rattle.std.specs.Prelude.{◌≡◌, ◌⊎◌, ⊤, List, [], ◌∷◌, Option, Some, None}
use Rattle.ulfm_job.specs.declared.step.Step.{Step}
use Rattle.ulfm_answer.specs.declared.answer.StepAnswer.TheVariants.{Unfinished}
use Rattle.ulfm_answer.specs.declared.answer.StepReport.{StepReport}
use Rattle.ulfm_script.specs.Player.{Player, answered}

-- the player, where this open step of it, if there is one, is given up
abbrev pub given_up_by : Option Step → Player → Player
given_up_by None p = p
given_up_by (Some asked) p = answered p asked Unfinished p.at

-- the player, where its open step is given up
abbrev pub given_up : Player → Player
given_up p = given_up_by p.current p

-- Two reports tell of one step with one answer, at one place of the log. After how many polls plays no part; and of a step that was given up the
-- last poll neither.
pub record TellsTheSame (x y : StepReport) : Type 0 where
  pub step : x.step ≡ y.step
  pub answer : x.answer ≡ y.answer
  pub at : (y.answer ≡ Unfinished) ⊎ (x.at ≡ y.at)

-- so do these, one by one
abbrev pub TellTheSame : List StepReport → List StepReport → Type 0
TellTheSame [] [] = ⊤
TellTheSame (x ∷ xs) (y ∷ ys) = TellsTheSame x y × TellTheSame xs ys
TellTheSame _ _ = ⊥
