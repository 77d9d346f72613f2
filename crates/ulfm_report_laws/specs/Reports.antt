-- Reports of ranks, by the ranks' numbers.
use Rattle.std.specs.Prelude.{◌≡◌, ℕ, true, false, List, [], length, slice_index_or}
use Rattle.ulfm_base.specs.declared.decision.Decision.{Decision}
use Rattle.ulfm_base.specs.Lists.{at}
use Rattle.ulfm_log.specs.declared.entry.Entry.TheVariants.{Adopted}
use Rattle.ulfm_log.specs.Communicators.{is_made}
use Rattle.ulfm_log.specs.Facts.{is_stopped}
use Rattle.ulfm_log.specs.State.{start_state}
use Rattle.ulfm_job.specs.Job.{JobView}
use Rattle.ulfm_answer.specs.Report.{Report}

-- a report where there is none
abbrev pub no_report : Report
no_report = record { rank = start_state 0 0; steps = []; starved = 0 }

-- the report of the rank r
abbrev pub report_at : List Report → ℕ → Report
report_at reports r = slice_index_or reports r no_report

-- for each rank of a job there is one of these
abbrev pub IsEach : {X : Type 0} → JobView → List X → Type 0
IsEach job xs = length xs ≡ job.ranks

-- the rank runs
abbrev pub IsRunning : Report → Type 0
IsRunning report = is_stopped report.rank.log ≡ false

-- the rank has stopped
abbrev pub HasStopped : Report → Type 0
HasStopped report = is_stopped report.rank.log ≡ true

-- the communicator of a context was made at the rank
abbrev pub HasMade : Report → ℕ → Type 0
HasMade report c = is_made report.rank.ranks report.rank.log c ≡ true

-- the rank's log adopts this decision
abbrev pub HasAdopted : Report → Decision → Type 0
HasAdopted report d = (k : ℕ) × at report.rank.log k (Adopted d)
