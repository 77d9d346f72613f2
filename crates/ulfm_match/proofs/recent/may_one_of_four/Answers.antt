use Rattle.std.proofs.Common.{ℕ, subst}
use Rattle.ulfm_match.proofs.Common.{Pattern, Admits}
use Rattle.ulfm_match.proofs.Rising.{none_four}
use Rattle.ulfm_match.proofs.recent.may_one_of_four.Goals as goal

pub returns : goal.returns
returns c f before =
    let P : ℕ × Pattern → Type 0 = λ y. Admits y.1 c.args.envelope.now in
    none_four P c.args.receives.now c.args.start c.index-receives-start.result c.index-receives-start-2.result c.index-receives-start-3.result c.index-receives-start-4.result
    c.requires c.index-receives-start.is c.index-receives-start-2.is c.index-receives-start-3.is c.index-receives-start-4.is before
    (λ p. let t = c.may_admit.ensures (subst P c.index-receives-start.is p) in let g = c.if-may_admit.false in cc)
    (λ p. let t = c.may_admit-2.ensures (subst P c.index-receives-start-2.is p) in let g = c.if-may_admit-2.false in cc)
    (λ p. let t = c.may_admit-3.ensures (subst P c.index-receives-start-3.is p) in let g = c.if-may_admit-3.false in cc)
    (λ p. let t = c.may_admit-4.ensures (subst P c.index-receives-start-4.is p) in cc)
