use Rattle.std.proofs.Common.{rules, ℕ, Bool, subst, sym, nat_eq, is_some, IsSome}
use Rattle.std.proofs.lemmas.Fn.{filter_same}
use Rattle.ulfm_match.proofs.Common.{Sweeps, get}
use Rattle.ulfm_match.proofs.Bucketed.{sweeps_filter}
use Rattle.ulfm_match.proofs.bucket.drop_gone.Goals as goal

pub returns : goal.returns
returns g c =
    let test : ℕ → Bool = λ n. is_some (get nat_eq c.args.live.now n) in
    let L : ℕ → Type 0 = λ n. IsSome (get nat_eq c.args.live.now n) in
    subst (Sweeps L c.args.numbers.now.items) (sym (filter_same _ test _ (λ x b f' k. search rules) _ _ c.retain.ensures.filtered)) (sweeps_filter L test c.args.numbers.now.items (λ n l. l))
