use Rattle.std.proofs.Common.{◌≡◌, take}
use Rattle.ulfm_job.proofs.copied.copied_namings.Given as goal

abbrev pub invariant-loop-naming : goal.invariant-loop-naming
invariant-loop-naming l = l.copies.items ≡ take l.naming-index l.fn.namings
