use Rattle.std.proofs.Common.{◌≡◌, take}
use Rattle.ulfm_job.proofs.copied.copied_left.Given as goal

abbrev pub invariant-loop-step : goal.invariant-loop-step
invariant-loop-step l = l.copies.items ≡ take l.step-index l.fn.left
