use Rattle.std.proofs.Common.{◌≡◌, ◌≢◌, refl, ap, sym, ◌∙◌, Some}
use Rattle.ulfm_match.proofs.Bucketed.{sweeps_popped}
use Rattle.ulfm_match.proofs.bucket.pop_back_where.Goals as goal

pub returns : goal.returns
returns c =
    let n = c.in-Some.back.now in
    let popped : c.pop_back.result ≡ Some n = c.pop_back.ensures.value n (c.in-Some.ensures.variant.0 refl) ∙ ap Some (sym c.in-Some.ensures.lookup) in
    sweeps_popped (λ m. m ≢ c.args.number) n _ _ _ c.pop_back.ensures.items popped (λ no. no c.if-back-number.false)
