use Rattle.std.proofs.Common.{◌≡◌, take}
use Rattle.ulfm_job.proofs.Common.{lists_of}
use Rattle.ulfm_job.proofs.script_with_stop.copied_scripts.Given as goal

abbrev pub invariant-loop-script : goal.invariant-loop-script
invariant-loop-script l = lists_of l.copies.items ≡ lists_of (take l.script-index l.fn.scripts)
