use Rattle.std.proofs.Common.{◌≡◌, drop}
use Rattle.ulfm_log.specs.Log.{first_given}
use Rattle.ulfm_log.specs.Proposal.{entry_of}
use Rattle.ulfm_run.proofs.adopted.entry_of.Given as goal

abbrev pub invariant-loop-entry : goal.invariant-loop-entry
invariant-loop-entry l = first_given (entry_of l.topic) (drop l.entry-index l.log) ≡ first_given (entry_of l.topic) l.log
