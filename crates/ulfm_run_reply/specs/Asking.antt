-- What a job's text asks of the answers of all ranks.
use Rattle.std.specs.Prelude.{Bool, false, not, ◌&&◌, List, Option, Some, None, slice_get}
use Rattle.std.specs.List.{list_all, list_any}
use Rattle.ulfm_job.specs.Job.{JobView}
use Rattle.ulfm_command_line.specs.Asking.{is_looked_at}
use Rattle.ulfm_job.specs.declared.clause.Clause.{Clause}
use Rattle.ulfm_answer.specs.Reacting.{all_met, holds_of}
use Rattle.ulfm_answer.specs.Report.{Report}

-- a clause holds in the report of its rank
abbrev pub holds_in : Option Report → Clause → Bool
holds_in None c = false
holds_in (Some report) c = holds_of report.steps c

-- a clause holds of the answers of its rank
abbrev pub holds_among : List Report → Clause → Bool
holds_among reports c = holds_in (slice_get reports c.rank) c

-- a row that is looked at has come: all of its answers
abbrev pub has_come : JobView → List Report → List Clause → Bool
has_come job reports row = is_looked_at job row && list_all (holds_among reports) row

-- the answers are as the text asks: each as its step expects, and not all of any row that is looked at
unfoldable pub as_asked : List (List Clause) → JobView → List Report → Bool
as_asked never job reports = all_met job reports && not (list_any (has_come job reports) never)
