-- What clauses ask a schedule to show.
use Rattle.std.specs.Prelude.{◌≡◌, ◌==◌, ◌&&◌, ◌||◌, ℕ, Bool, false, not, List, [], ◌∷◌, Option, Some, None, codes, filter, map}
use Rattle.std.specs.List.{list_all, list_any}
use Rattle.std.specs.Str.{bytes_eq}
use Rattle.ulfm_answer.specs.Told.{read_code}
use Rattle.ulfm_answer.specs.Trace.{told_text}
use Rattle.ulfm_answer.specs.declared.told_answer.ToldAnswer.{ToldAnswer}
use Rattle.ulfm_job.specs.Begins.{begins}
use Rattle.ulfm_job.specs.Job.{JobView, may_leave}
use Rattle.ulfm_job.specs.declared.clause.Clause.{Clause}
use Rattle.ulfm_outcomes_list.specs.declared.goals.Goals.{Goals}
use Rattle.ulfm_outcomes_list.specs.declared.open_step.OpenStep.{OpenStep}

-- A clause asks for a step that never ends: it says so, or that the step is unfinished, which is an answer where the job lets its rank
-- leave the step.
abbrev pub asks_open : JobView → Clause → Bool
asks_open j c = bytes_eq c.words (codes "never ends") || (bytes_eq c.words (codes "unfinished") && not (may_leave j c.rank c.step))

-- the step of a clause
abbrev pub step_of : Clause → OpenStep
step_of c = record { rank = c.rank; step = c.step }

-- These goals are what clauses ask for of a job: steps that never end, and answers.
pub record AreOfClauses (j : JobView) (clauses : List Clause) (goals : Goals) : Type 0 where
  pub answers : goals.answers.items ≡ filter (λ c. not (asks_open j c)) clauses
  pub others : goals.others.items ≡ []
  pub left : goals.left.items ≡ map step_of (filter (asks_open j) clauses)

-- the words of an answer, if one is told, begin with these
abbrev pub begins_told : Option ToldAnswer → List ℕ → Bool
begins_told None words = false
begins_told (Some told) words = begins (told_text told) words

-- the row of a list tells of an answer that begins as the clause says
abbrev pub tells : Clause → List ℕ → Bool
tells c (rank ∷ step ∷ code) = (rank == c.rank) && (step == c.step) && begins_told (read_code code) c.words
tells c _ = false

-- the row of a list tells that the step never ends
abbrev pub tells_open : OpenStep → List ℕ → Bool
tells_open o (rank ∷ step ∷ []) = (rank == o.rank) && (step == o.step)
tells_open o _ = false

-- the list has each of these answers, and each of these open steps
abbrev pub has_each : List (List ℕ) → Goals → Bool
has_each found goals = list_all (λ (c : Clause). list_any (tells c) found) goals.answers.items && list_all (λ (o : OpenStep). list_any (tells_open o) found) goals.left.items
