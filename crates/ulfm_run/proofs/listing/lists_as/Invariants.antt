use Rattle.std.proofs.Common.{◌<◌, ℕ}
use Rattle.ulfm_run.specs.inside.Listed.{IsListedAs}
use Rattle.ulfm_run.proofs.listing.lists_as.Given as goal

abbrev pub invariant-loop-number : goal.invariant-loop-number
invariant-loop-number l = (r : ℕ) → r < l.number → IsListedAs l.me l.log l.decision r
