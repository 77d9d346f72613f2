use Rattle.std.proofs.Common.{◌<◌, ℕ}
use Rattle.ulfm_run.proofs.Common.{at, Entry, AdoptsTruly}
use Rattle.ulfm_run.proofs.adopted.adopts_truly.Given as goal

abbrev pub invariant-loop-entry : goal.invariant-loop-entry
invariant-loop-entry l = (k : ℕ) (entry : Entry) → k < l.entry-index → at l.log k entry → AdoptsTruly l.reports entry
