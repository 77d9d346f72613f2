use Rattle.std.proofs.Common.{ℕ, nat_eq, IsSome}
use Rattle.ulfm_match.proofs.Common.{get}
use Rattle.ulfm_match.proofs.Bucketed.{sweeps_both}
use Rattle.ulfm_match.proofs.buckets.forget_letter.Goals as goal

pub returns : goal.returns
returns g c k =
    let L : ℕ → Type 0 = λ n. IsSome (get nat_eq c.args.live.now n) in
    sweeps_both L _ _ _ (c.forget.ensures k) (c.forget-2.ensures k)
