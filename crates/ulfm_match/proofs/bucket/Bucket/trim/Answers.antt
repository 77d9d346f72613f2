use Rattle.std.proofs.Common.{ℕ, ◌++◌, subst, sym, nat_eq, IsSome}
use Rattle.std.specs.Option.{option_to_list}
use Rattle.ulfm_match.proofs.Common.{Sweeps, get}
use Rattle.ulfm_match.proofs.Bucketed.{sweeps_both, sweeps_first}
use Rattle.ulfm_match.proofs.bucket.Bucket.trim.Goals as goal

pub returns : goal.returns
returns g c =
    let L : ℕ → Type 0 = λ n. IsSome (get nat_eq c.args.live.now n) in
    let rest = c.args.self.now.rest.items in
    let gone : L c.in-Some.first → ⊥ = λ l. let k = c.contains_key.ensures in let f = c.if-contains_key.false in cc in
    subst (λ o. Sweeps L (option_to_list o ++ rest) c.trim-2.new.numbers.items) (sym c.in-Some.is)
    (sweeps_both L _ rest _ (sweeps_first L c.in-Some.first rest gone) c.trim-2.ensures)
