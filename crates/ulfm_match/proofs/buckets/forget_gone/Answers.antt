use Rattle.std.proofs.Common.{ℕ, nat_eq, IsSome}
use Rattle.ulfm_match.proofs.Common.{get}
use Rattle.ulfm_match.proofs.Bucketed.{sweeps_both}
use Rattle.ulfm_match.proofs.buckets.forget_gone.Goals as goal
use Rattle.ulfm_match.proofs.buckets.forget_gone.Goals.{in-Some, in_default}

pub loop-i-preserved : goal.loop-i-preserved
loop-i-preserved g c k =
    let L : ℕ → Type 0 = λ n. IsSome (get nat_eq c.args.live.now n) in
    elim c.match-get_index.branch [
      | in-Some w ↦ rw w.buckets-is (sweeps_both L _ _ _ (c.loop-i.invariant k) (w.forget.ensures k))
      | in_default w ↦ rw w.buckets-is (c.loop-i.invariant k)
    ]
