use Rattle.std.proofs.Common.{◌≡◌, drop}
use Rattle.ulfm_log.specs.Log.{first_given}
use Rattle.ulfm_log.specs.Proposal.{heard_of}
use Rattle.ulfm_run.proofs.listing.heard_of.Given as goal

abbrev pub invariant-loop-entry : goal.invariant-loop-entry
invariant-loop-entry l = first_given (heard_of l.topic l.number) (drop l.entry-index l.log) ≡ first_given (heard_of l.topic l.number) l.log
