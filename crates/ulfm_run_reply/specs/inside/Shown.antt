-- What a run shows that fails.
use Rattle.std.specs.Prelude.{List, ⊤, ◌⊎◌}
use Rattle.ulfm_job.specs.Job.{JobView}
use Rattle.ulfm_answer.specs.Report.{Report}
use Rattle.ulfm_run.specs.Fault.{ShowUntrue}
use Rattle.ulfm_run_reply.specs.Played.{ShowNoRoom}
use Rattle.ulfm_command_line.specs.declared.failure.Failure.{Failure}
use Rattle.ulfm_command_line.specs.declared.failure.Failure.TheVariants as run

-- F4 comes only with reports that show it
abbrev pub IsShown : JobView → Failure → Type 0
IsShown job run.Untrue = (reports : List Report) × (ShowUntrue job reports ⊎ ShowNoRoom job reports)
IsShown job _ = ⊤
