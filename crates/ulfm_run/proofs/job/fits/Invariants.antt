use Rattle.std.proofs.Common.{◌≡◌, ◌<◌, ℕ}
use Rattle.ulfm_run.proofs.Common.{at}
use Rattle.ulfm_run.proofs.job.fits.Given as goal

abbrev pub invariant-loop-place : goal.invariant-loop-place
invariant-loop-place g l = (k : ℕ) (e : g.row.E.Denot) → k < l.place → at l.ends.items k e → g.E.Ends.place e ≡ k
