-- What the parts of a rank's turn keep: the laws of a turn cite it.
use Rattle.std.specs.Prelude.{◌≡◌, ℕ, Bool, true, false, List, ◌<◌, ◌≤◌, ◌⊎◌, length}
use Rattle.std.proofs.Common.{refl, ◌∙◌}
use Rattle.ulfm_base.specs.declared.item.Item.{Item}
use Rattle.ulfm_log.specs.Facts.{is_stopped}
use Rattle.ulfm_job.specs.declared.step.Step.{Step}
use Rattle.ulfm_script.specs.Deciding.{Known}
use Rattle.ulfm_script.specs.inside.SoFar.{AnswersFollowSoFar}
use Rattle.ulfm_job.specs.Job.{JobView, script_at}
use Rattle.ulfm_script.specs.Player.{Player, PlayerView}
use Rattle.ulfm_script.specs.inside.Underway.{polls_left}
use Rattle.ulfm_run.specs.inside.Joined.{IsAtWork}

-- a player that stopped, or has no step left
abbrev pub IsOver : List Step → Player → Type 0
IsOver script p = (is_stopped p.rank.log ≡ true) ⊎ (length script ≤ length p.done)

-- a step was polled, and fewer polls are left; or none was left to be played, and no more polls are left
abbrev pub WentOn : List Step → ℕ → Player → Player → Bool → Type 0
WentOn script turns old new true = (¬ IsOver script old) × (polls_left script turns new < polls_left script turns old)
WentOn script turns old new false = IsOver script new × (polls_left script turns new ≤ polls_left script turns old)

-- as many polls are left, and a step is left where one was
pub record IsAsFar (script : List Step) (turns : ℕ) (old new : Player) : Type 0 where
  pub left : polls_left script turns new ≡ polls_left script turns old
  pub over : IsOver script old → IsOver script new
  pub was_over : IsOver script new → IsOver script old

-- A rank at its job stays there: its end and its board are the same, and its answers stay right.
pub record Keeps {E N D B : Type 0} (name : E → N) (place count : E → ℕ) (pushed taken : E → ℕ → List Item) (ready : E → Type 0) (board : D → B) (known : D → Known) (job : JobView) (me : ℕ) (v : PlayerView) (e : E) (d : D) (w : PlayerView) (f : E) (g : D) : Type 0 where
  pub at_work : IsAtWork place count pushed taken ready job me v e → IsAtWork place count pushed taken ready job me w f
  pub same_end : name f ≡ name e
  pub same_board : board g ≡ board d
  pub honest : AnswersFollowSoFar (known d) v.player → AnswersFollowSoFar (known g) w.player

module _ {E N D B : Type 0} (name : E → N) (place count : E → ℕ) (pushed taken : E → ℕ → List Item) (ready : E → Type 0) (board : D → B) (known : D → Known) (job : JobView) (me : ℕ) where
  -- items moved, or none did
  pub record Carries (v : PlayerView) (e : E) (d : D) (w : PlayerView) (f : E) (g : D) : Type 0 where
    pub keeps : Keeps name place count pushed taken ready board known job me v e d w f g
    pub as_far : IsAsFar (script_at job me) job.turns v.player w.player

  pub carries-none : (v : PlayerView) (e : E) (d : D) → Carries v e d v e d
  carries-none v e d = record {
    keeps = record { at_work = λ h. h; same_end = refl; same_board = refl; honest = λ h. h };
    as_far = record { left = refl; over = λ o. o; was_over = λ o. o };
  }

  pub keeps-then : (u v w : PlayerView) (e f g : E) (c d b : D) → Keeps name place count pushed taken ready board known job me u e c v f d → Keeps name place count pushed taken ready board known job me v f d w g b → Keeps name place count pushed taken ready board known job me u e c w g b
  keeps-then u v w e f g c d b h k = record { at_work = λ x. k.at_work (h.at_work x); same_end = k.same_end ∙ h.same_end; same_board = k.same_board ∙ h.same_board; honest = λ x. k.honest (h.honest x) }

  pub carries-then : (u v w : PlayerView) (e f g : E) (c d b : D) → Carries u e c v f d → Carries v f d w g b → Carries u e c w g b
  carries-then u v w e f g c d b h k = record {
    keeps = keeps-then u v w e f g c d b h.keeps k.keeps;
    as_far = record { left = k.as_far.left ∙ h.as_far.left; over = λ o. k.as_far.over (h.as_far.over o); was_over = λ o. h.as_far.was_over (k.as_far.was_over o) };
  }
