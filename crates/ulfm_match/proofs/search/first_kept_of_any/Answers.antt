use Rattle.std.proofs.Common.{◌≡◌, ℕ, ◌<◌, arith, true, Contains}
use Rattle.ulfm_base.specs.RankSet.{has}
use Rattle.ulfm_match.proofs.Common.{Admits, Letter, Passes, key_from, numbers_at}
use Rattle.ulfm_match.proofs.Bucketed.{finds_all, finds_next}
use Rattle.ulfm_match.proofs.search.first_kept_of_any.Goals as goal

pub loop-number-preserved : goal.loop-number-preserved
loop-number-preserved c =
    finds_next (λ s n. (has c.args.members s ≡ true) × Contains (numbers_at c.args.buckets.now (key_from s c.args.pattern.now)) n)
    (Passes (λ (letter : Letter). Admits c.args.pattern.now letter.envelope) c.args.kept.now) c.loop-number.number
    c.loop-number.found c.first_kept_among.result c.lesser-found.result c.lesser-found.ensures c.loop-number.invariant c.first_kept_among.ensures

pub returns : goal.returns
returns c =
    let A : ℕ → ℕ → Type 0 = λ s n. (has c.args.members s ≡ true) × Contains (numbers_at c.args.buckets.now (key_from s c.args.pattern.now)) n in
    let Q : ℕ → Type 0 = Passes (λ (letter : Letter). Admits c.args.pattern.now letter.envelope) c.args.kept.now in
    finds_all (λ n. (s : ℕ) × (s < c.loop-number.number) × A s n)
    (λ n. (s : ℕ) × (s < 8) × (has c.args.members s ≡ true) × Contains (numbers_at c.args.buckets.now (key_from s c.args.pattern.now)) n) Q c.loop-number.found
    (λ n m q. (m.0, (let l = m.1 in omega (arith, l, c.loop-number-test.false)), (m.2, m.3)))
    c.loop-number.invariant
