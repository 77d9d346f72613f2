use Rattle.std.proofs.Common.{◌≡◌, ◌<◌, ℕ, length, refl, subst, sym, arith, Contains}
use Rattle.std.proofs.lemmas.List.Elements.{Contains-get_or}
use Rattle.ulfm_match.proofs.Common.{Pattern}
use Rattle.ulfm_match.proofs.Rising.{none_more, none_all}
use Rattle.ulfm_match.proofs.recent.is_recent.Goals as goal

pub returns-then-index-number : goal.returns-then-index-number
returns-then-index-number c =
    let xs = c.args.recent.now.items in
    let x = c.index.result.now in
    let l : c.loop-k.k < length xs = omega (arith, c.loop-k-test.true, c.len-k-end.ensures, c.args.recent.now.ok.0) in
    let there = subst (λ (y : ℕ × Pattern). Contains xs y) (sym c.index.ensures) (Contains-get_or xs c.loop-k.k x l) in
    (λ t. (x.1, subst (λ n. Contains xs (n, x.1)) c.if-index-number.true there), λ e. refl)

pub loop-k-preserved : goal.loop-k-preserved
loop-k-preserved c =
    none_more (λ (y : ℕ × Pattern). y.0 ≡ c.args.number) c.args.recent.now.items c.loop-k.k c.index.result.now (omega (arith, c.loop-k-test.true, c.len-k-end.ensures, c.args.recent.now.ok.0)) c.index.ensures c.loop-k.invariant
    c.if-index-number.false

pub returns : goal.returns
returns c = (
  λ t. cc,
  λ e. absurd (none_all (λ (y : ℕ × Pattern). y.0 ≡ c.args.number) c.args.recent.now.items c.loop-k.k (omega (arith, c.loop-k-test.false, c.len-k-end.ensures, c.args.recent.now.ok.0)) c.loop-k.invariant (c.args.number, e.0) e.1 refl),
)
