-- A player on its way through its script.
use Rattle.std.specs.Prelude.{◌≡◌, ⊤, ℕ, true, false, List, ◌++◌, ◌+◌, ◌-◌, ◌*◌, ◌<◌, length, All, MatchOption, Some, None, slice_get, Bool, [], ◌∷◌, if◌then◌else◌, Option, IsTrue}
use Rattle.ulfm_log.specs.Facts.{is_stopped}
use Rattle.ulfm_log.specs.State.{RankView}
use Rattle.ulfm_job.specs.declared.step.Step.{Step}
use Rattle.ulfm_script.specs.Player.{Player}
use Rattle.ulfm_job.specs.Job.{JobView}
use Rattle.ulfm_script.specs.Meant.{played_script}
use Rattle.ulfm_answer.specs.declared.answer.StepReport.{StepReport}
use Rattle.ulfm_job.specs.declared.condition.Condition.{Condition}
use Rattle.ulfm_answer.specs.Reacting.{SkipsRightly, is_played}
use Rattle.ulfm_script.specs.Script.{GivesUpRightly, IsPatient, is_played_stop, steps_done, through_stop}
use Rattle.ulfm_log.specs.declared.entry.TestAnswer.{TestAnswer}
use Rattle.ulfm_log.specs.declared.entry.TestAnswer.TheVariants.{Done as TestDone, Over as TestOver, Pending as TestPending, NotYet as TestNotYet}
use Rattle.ulfm_answer.specs.declared.answer.StepAnswer.{StepAnswer}
use Rattle.ulfm_answer.specs.declared.answer.StepAnswer.TheVariants.{Done, Over, Pending}

-- a rank that stays as it was keeps its room for a call, and its place for a request
abbrev pub KeepsRoom : RankView → RankView → Type 0
KeepsRoom old new = (new.state ≡ old.state → IsTrue old.prepared → IsTrue new.prepared) × (new.state ≡ old.state → IsTrue old.has_place → IsTrue new.has_place)

-- the polls that are left to a player
abbrev pub polls_left : List Step → ℕ → Player → ℕ
polls_left script turns p = (turns + 1) * (length script - length p.done) - p.polls

-- whether these steps have a stop that was played
abbrev pub has_stop : List StepReport → Bool
has_stop [] = false
has_stop (x ∷ xs) = if is_played_stop x then true else has_stop xs

-- a player that goes through this script, with at most so many polls of a step
pub record FollowsSoFar (script : List Step) (turns : ℕ) (p : Player) : Type 0 where
  pub rest : List Step
  pub split : steps_done p ++ rest ≡ script
  pub patient : All (IsPatient turns) p.done
  pub current : MatchOption p.current (p.polls ≡ 0) (λ asked. (slice_get script (length p.done) ≡ Some asked) × (p.polls < turns))
  pub running : is_stopped p.rank.log ≡ false → has_stop p.done ≡ false
  pub stopped : is_stopped p.rank.log ≡ true → (steps_done p ≡ through_stop p.done script) × (p.current ≡ None)

-- the step that stands open is to be played
abbrev pub IsPlaying : List Condition → ℕ → Player → Type 0
IsPlaying conditions r p = MatchOption p.current ⊤ (λ asked. is_played conditions r p.done ≡ true)

-- a player that goes through the script of the rank r of a job, and plays a step exactly where it is to be played
pub record GoesThrough (j : JobView) (r : ℕ) (p : Player) : Type 0 where
  pub follows : FollowsSoFar (played_script j r p.done) j.turns p
  pub gives : GivesUpRightly j r p.done
  pub skips : SkipsRightly j.conditions r p.done
  pub playing : IsPlaying j.conditions r p

-- what a test's answer is for a wait: nothing where the receive still waits
abbrev pub answer_of : TestAnswer → Option StepAnswer
answer_of (TestDone status body) = Some (Done status body)
answer_of (TestOver reason) = Some (Over reason)
answer_of TestPending = Some Pending
answer_of TestNotYet = None
