use Rattle.std.proofs.Common.{ℕ, [], ap, sym, nat_eq, is_some, Some, None, IsSome, arith}
use Rattle.ulfm_match.proofs.Common.{Sweeps, nat_tests, get}
use Rattle.ulfm_match.proofs.Bucketed.{sweeps_none, sweeps_both, at_key}
use Rattle.ulfm_match.proofs.buckets.forget.Goals as goal

pub returns-then-not-is_empty : goal.returns-then-not-is_empty
returns-then-not-is_empty g c =
    let L : ℕ → Type 0 = λ n. IsSome (get nat_eq c.args.live.now n) in
    let at = sym c.in-Some.ensures.value in
    let up = (c.get_mut.follows.holds c.sweep.new.self).3 (ap is_some at) in
    at_key (Sweeps L) (sweeps_none L) (get nat_eq c.args.buckets.now) (get nat_eq (c.get_mut.follows.lender c.sweep.new.self)) c.args.key (Some c.in-Some.bucket.now) (Some c.sweep.new.self) at up.0 c.sweep.ensures

pub returns : goal.returns
returns g c k =
    let L : ℕ → Type 0 = λ n. IsSome (get nat_eq c.args.live.now n) in
    let at = sym c.in-Some.ensures.value in
    let up = (c.get_mut.follows.holds c.sweep.new.self).3 (ap is_some at) in
    let swept = at_key (Sweeps L) (sweeps_none L) (get nat_eq c.args.buckets.now) (get nat_eq (c.get_mut.follows.lender c.sweep.new.self)) c.args.key (Some c.in-Some.bucket.now) (Some c.sweep.new.self) at up.0 c.sweep.ensures k in
    let gone = at_key (Sweeps L) (sweeps_none L) (get nat_eq (c.get_mut.follows.lender c.sweep.new.self)) (get nat_eq c.swap_remove.new.self) c.args.key (Some c.sweep.new.self) None up.1 c.swap_remove.ensures.updates.0
    (rw (c.is_empty.ensures.0 (let f = c.if-not-is_empty.false in grind (arith, nat_tests, f))) (sweeps_none L [])) k in
    sweeps_both L _ _ _ swept gone
