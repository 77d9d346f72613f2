use Rattle.std.proofs.Common.{◌<◌, ℕ}
use Rattle.ulfm_run.proofs.Common.{at, Entry, Report, AdoptsTruly}
use Rattle.ulfm_run.proofs.adopted.are_true.Given as goal

abbrev pub invariant-loop-report : goal.invariant-loop-report
invariant-loop-report l = (k : ℕ) (told : Report) → k < l.report-index → at l.reports k told → (j : ℕ) (entry : Entry) → at told.rank.log j entry → AdoptsTruly l.reports entry
