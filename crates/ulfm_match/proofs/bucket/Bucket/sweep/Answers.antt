use Rattle.std.proofs.Common.{ℕ, nat_eq, IsSome}
use Rattle.ulfm_match.proofs.Common.{get}
use Rattle.ulfm_match.proofs.Bucketed.{sweeps_both, sweeps_rest}
use Rattle.ulfm_match.proofs.bucket.Bucket.sweep.Goals as goal

pub returns-then-is_none : goal.returns-then-is_none
returns-then-is_none g c =
    let L : ℕ → Type 0 = λ n. IsSome (get nat_eq c.args.live.now n) in
    sweeps_both L _ _ _ c.trim_where.ensures (sweeps_rest L c.trim_where.new.self.first _ _ c.drop_gone.ensures)
