use Rattle.std.proofs.Common.{◌≡◌, ◌≢◌, ◌++◌, subst, sym, arith}
use Rattle.std.specs.Option.{option_to_list}
use Rattle.ulfm_match.proofs.Common.{Sweeps, nat_tests}
use Rattle.ulfm_match.proofs.Bucketed.{sweeps_first, sweeps_rest}
use Rattle.ulfm_match.proofs.bucket.Bucket.pop_where.Goals as goal

pub returns-in_default : goal.returns-in_default
returns-in_default c = sweeps_rest (λ n. n ≢ c.args.number) c.args.self.now.first _ _ c.pop_where.ensures

pub returns : goal.returns
returns c =
    let rest = c.args.self.now.rest.items in
    let n = c.in-Some.first in
    let same : n ≡ c.args.number = (let f = c.if-first-number.false in grind (arith, nat_tests, f)) in
    subst (λ o. Sweeps (λ m. m ≢ c.args.number) (option_to_list o ++ rest) rest) (sym c.in-Some.is) (sweeps_first (λ m. m ≢ c.args.number) n rest (λ no. no same))
