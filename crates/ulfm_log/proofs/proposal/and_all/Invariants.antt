use Rattle.std.proofs.Common.{◌≡◌, take}
use Rattle.ulfm_base.specs.Decision.{and_all}
use Rattle.ulfm_log.proofs.proposal.and_all.Given as goal

abbrev pub invariant-loop-entry : goal.invariant-loop-entry
invariant-loop-entry l = l.bits ≡ and_all (take l.entry-index l.listed)
