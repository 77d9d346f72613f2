use Rattle.std.proofs.Common.{◌<◌, ◌≤◌, ℕ, length}
use Rattle.ulfm_base.specs.Items.{items_from}
use Rattle.ulfm_run.proofs.left.is_within.Given as goal

abbrev pub invariant-loop-source : goal.invariant-loop-source
invariant-loop-source l = (s : ℕ) → s < l.source → length (items_from s l.inbox) ≤ l.places
