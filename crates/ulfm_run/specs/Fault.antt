-- Ends that don't fit a job, and what its ranks report that can't be true (ULFM, shrink and agree).
use Rattle.std.specs.Prelude.{◌≡◌, ℕ, List, length}
use Rattle.ulfm_base.specs.Lists.{InPlace}
use Rattle.ulfm_job.specs.Job.{JobView}
use Rattle.ulfm_script.specs.Deciding.{Known}
use Rattle.ulfm_answer.specs.Report.{Report}
use Rattle.ulfm_report_laws.specs.Answers.{AllFollowScripts, AllAnswersFollow}
use Rattle.ulfm_report_laws.specs.Decisions.{AreTrue, NoneIsForeign}
use Rattle.ulfm_report_laws.specs.Order.{HaveOneOrder}
use Rattle.ulfm_report_laws.specs.Reports.{IsEach}

-- there is an end and a decider for each rank, and the ends stand at the places of their numbers
pub record Fits {E D : Type 0} (place : E → ℕ) (job : JobView) (ends : List E) (deciders : List D) : Type 0 where
  pub end_each : length ends ≡ job.ranks
  pub decider_each : length deciders ≡ job.ranks
  pub placed : InPlace place ends

-- What all the ranks of a job report, by their numbers, shows a decision that isn't true, or isn't one for its rank to adopt, or logs
-- that have no one order, as where no rank's own call made a revocation. With some decisions known for each rank, each answer is right.
pub record ShowUntrue (job : JobView) (reports : List Report) : Type 0 where
  pub each : IsEach job reports
  pub order : InPlace (λ report. report.rank.me) reports
  pub scripts : AllFollowScripts job reports
  pub knows : List Known
  pub known_each : IsEach job knows
  pub answered : AllAnswersFollow knows reports
  pub untrue : AreTrue reports × HaveOneOrder reports × NoneIsForeign reports → ⊥
