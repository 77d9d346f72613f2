use Rattle.std.proofs.Common.{◌≡◌, ◌<◌, ℕ, Some}
use Rattle.ulfm_base.specs.declared.contribution.Contribution.{Contribution}
use Rattle.ulfm_base.specs.Decision.{entry_at}
use Rattle.ulfm_run.proofs.Common.{EnteredWith}
use Rattle.ulfm_run.proofs.adopted.lists_truly.Given as goal

abbrev pub invariant-loop-number : goal.invariant-loop-number
invariant-loop-number l = (k : ℕ) (brought : Contribution) → k < l.number → entry_at l.entries k ≡ Some brought → EnteredWith l.reports k l.topic brought
