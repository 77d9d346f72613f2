-- Steps that were left unfinished, and the status that tells of them.
use Rattle.std.specs.Prelude.{ℕ, ◌+◌, Bool, false, not, ◌&&◌, ◌||◌, List, [], ◌∷◌, if◌then◌else◌}
use Rattle.std.specs.List.{list_any}
use Rattle.ulfm_job.specs.Job.{JobView, may_leave}
use Rattle.ulfm_answer.specs.declared.answer.StepReport.{StepReport}
use Rattle.ulfm_answer.specs.Report.{Report, is_unfinished}

-- one of these steps of the rank r, the first of which is numbered k, was left unfinished, and isn't one that may be given up early
abbrev pub left_from : JobView → ℕ → ℕ → List StepReport → Bool
left_from job r k [] = false
left_from job r k (step ∷ steps) = is_unfinished step.answer && not (may_leave job r k) || left_from job r (k + 1) steps

-- some step of the rank was
abbrev pub leaves_unfinished : JobView → Report → Bool
leaves_unfinished job report = left_from job report.rank.me 0 report.steps

-- some step of some rank was left unfinished: one that may be given up early isn't looked at
abbrev pub has_unfinished : JobView → List Report → Bool
has_unfinished job reports = list_any (leaves_unfinished job) reports

-- the status of what was played to its end: 9 where the answers aren't as the job asks, with `--strict` 6 where a step was left
-- unfinished, else 0
abbrev pub played_status : Bool → Bool → Bool → ℕ
played_status is_strict is_met is_unfinished = if is_met then (if is_strict && is_unfinished then 6 else 0) else 9
