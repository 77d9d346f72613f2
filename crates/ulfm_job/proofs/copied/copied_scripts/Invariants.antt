use Rattle.std.proofs.Common.{◌≡◌, take}
use Rattle.ulfm_job.specs.Job.{lists_of}
use Rattle.ulfm_job.proofs.copied.copied_scripts.Given as goal

abbrev pub invariant-loop-rank : goal.invariant-loop-rank
invariant-loop-rank l = lists_of l.scripts.items ≡ take l.rank l.job.scripts
