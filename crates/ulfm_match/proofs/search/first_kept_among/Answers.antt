use Rattle.std.proofs.Common.{◌≡◌, ℕ, true, Contains}
use Rattle.ulfm_base.specs.RankSet.{has}
use Rattle.ulfm_match.proofs.Common.{Admits, Letter, Passes, key_from, numbers_at}
use Rattle.ulfm_match.proofs.Bucketed.{finds_all}
use Rattle.ulfm_match.proofs.search.first_kept_among.Goals as goal

pub returns : goal.returns
returns c =
    let M : ℕ → Type 0 = λ n. Contains (numbers_at c.args.buckets.now (key_from c.args.source.number c.args.pattern.now)) n in
    let Q : ℕ → Type 0 = Passes (λ (letter : Letter). Admits c.args.pattern.now letter.envelope) c.args.kept.now in
    finds_all M (λ n. (has c.args.members c.args.source.number ≡ true) × M n) Q c.first_kept_from.result (λ n m q. m.1) c.first_kept_from.ensures
