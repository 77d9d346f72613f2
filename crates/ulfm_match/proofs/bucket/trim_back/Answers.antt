use Rattle.std.proofs.Common.{◌≡◌, ℕ, refl, ap, sym, ◌∙◌, Some, nat_eq, IsSome}
use Rattle.ulfm_match.proofs.Common.{get}
use Rattle.ulfm_match.proofs.Bucketed.{sweeps_both, sweeps_popped}
use Rattle.ulfm_match.proofs.bucket.trim_back.Goals as goal

pub loop-k-preserved : goal.loop-k-preserved
loop-k-preserved g c =
    let L : ℕ → Type 0 = λ n. IsSome (get nat_eq c.args.live.now n) in
    let n = c.in-Some.number.now in
    let popped : c.pop_back.result ≡ Some n = c.pop_back.ensures.value n (c.in-Some.ensures.variant.0 refl) ∙ ap Some (sym c.in-Some.ensures.lookup) in
    let gone : L n → ⊥ = λ l. let k = c.contains_key.ensures in let f = c.if-contains_key.false in cc in
    sweeps_both L _ _ _ c.loop-k.invariant (sweeps_popped L n _ _ _ c.pop_back.ensures.items popped gone)
