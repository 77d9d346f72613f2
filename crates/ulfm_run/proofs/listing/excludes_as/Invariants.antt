use Rattle.std.proofs.Common.{◌≡◌, ◌<◌, ◌||◌, ℕ, true}
use Rattle.ulfm_base.specs.Decision.{in_entry}
use Rattle.ulfm_base.specs.Group.{is_member}
use Rattle.ulfm_base.specs.RankSet.{has}
use Rattle.ulfm_log.specs.Facts.{is_gone}
use Rattle.ulfm_run.proofs.Common.{list_any}
use Rattle.ulfm_run.proofs.listing.excludes_as.Given as goal

abbrev pub invariant-loop-number : goal.invariant-loop-number
invariant-loop-number l = (r : ℕ) → r < l.number → is_member l.decision.old r ≡ true → has l.decision.excluded r ≡ (is_gone l.log r || list_any (λ entry. in_entry entry r) l.decision.entries)
