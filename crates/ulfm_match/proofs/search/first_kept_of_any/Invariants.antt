use Rattle.std.proofs.Common.{◌≡◌, ℕ, ◌<◌, true, Contains}
use Rattle.ulfm_base.specs.RankSet.{has}
use Rattle.ulfm_match.proofs.Common.{Admits, FindsLeast, Letter, Passes, key_from, numbers_at}
use Rattle.ulfm_match.proofs.search.first_kept_of_any.Given as goal

abbrev pub invariant-loop-number : goal.invariant-loop-number
invariant-loop-number l = FindsLeast (λ n. (s : ℕ) × (s < l.number) × ((has l.members s ≡ true) × Contains (numbers_at l.buckets (key_from s l.pattern)) n)) (Passes (λ (letter : Letter). Admits l.pattern letter.envelope) l.kept) l.found
