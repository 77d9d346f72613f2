use Rattle.std.proofs.Common.{◌≡◌, ℕ, ◌<◌, subst, true, Contains}
use Rattle.ulfm_base.specs.RankSet.{has}
use Rattle.ulfm_match.proofs.Common.{Admits, Any, AsksOf, Letter, Passes, Source, StandsFrom, key_from, numbers_at}
use Rattle.ulfm_match.proofs.Bucketed.{finds_all}
use Rattle.ulfm_match.proofs.search.first_kept.Goals as goal

pub returns-in-One : goal.returns-in-One
returns-in-One c =
    let M : ℕ → ℕ → Type 0 = λ s n. Contains (numbers_at c.args.buckets.now (key_from s c.args.pattern.now)) n in
    let Q : ℕ → Type 0 = Passes (λ (letter : Letter). Admits c.args.pattern.now letter.envelope) c.args.kept.now in
    finds_all (M c.in-One.rank.number) (StandsFrom c.args.pattern.now c.args.buckets.now) Q c.first_kept_from.result
    (λ n m q. let own : m.0 ≡ c.in-One.rank.number = subst (λ (source : Source). AsksOf source m.0) c.in-One.is m.1 in subst (λ s. M s n) own m.2)
    c.first_kept_from.ensures

pub returns-in-Any : goal.returns-in-Any
returns-in-Any c =
    let M : ℕ → ℕ → Type 0 = λ s n. Contains (numbers_at c.args.buckets.now (key_from s c.args.pattern.now)) n in
    let Q : ℕ → Type 0 = Passes (λ (letter : Letter). Admits c.args.pattern.now letter.envelope) c.args.kept.now in
    finds_all (λ n. (s : ℕ) × (s < 8) × (has c.in-Any.members s ≡ true) × M s n) (StandsFrom c.args.pattern.now c.args.buckets.now) Q c.first_kept_of_any.result
    (λ n m q. let own : AsksOf (Any c.in-Any.members) m.0 = subst (λ (source : Source). AsksOf source m.0) c.in-Any.is m.1 in (m.0, own.0, own.1, m.2))
    c.first_kept_of_any.ensures
