use Rattle.std.proofs.Common.{◌≡◌, ◌<◌, ℕ, ◌∙◌, List, Option, None, sym, ap, arith, below_more, get_or, length}
use Rattle.std.proofs.lemmas.List.{get_or_default}
use Rattle.ulfm_log.proofs.Common.{Contribution, Decision, differ, entry_at}
use Rattle.ulfm_log.proofs.Foreign.{contradicts_at}
use Rattle.ulfm_log.proofs.adopting.contradicts.Goals as goal

-- what is read at a rank's place, whatever would be read past the end
read_at : (d : Decision) (entries : List (Option Contribution)) (k : ℕ) (x y : Option Contribution) → k < 8 → length entries ≡ 8 → differ (get_or d.entries k x) (get_or entries k y) ≡ differ (entry_at d.entries k) (entry_at entries k)
read_at d entries k x y small full =
    ap (λ o. differ o (get_or entries k y)) (get_or_default d.entries k x None (omega (arith, small, d.sized)))
    ∙ ap (differ (entry_at d.entries k)) (get_or_default entries k y None (omega (arith, small, full)))

pub returns-then-differ : goal.returns-then-differ
returns-then-differ c = λ me log k heard.
    let read = read_at c.args.decision.now c.args.entries.now c.loop-rank.rank _ _ c.loop-rank-test.true c.told-entries in
    sym (contradicts_at me log k c.args.decision.now c.args.entries.now c.loop-rank.rank heard c.loop-rank-test.true (sym (c.differ.ensures ∙ read) ∙ c.if-differ.true))

pub loop-rank-preserved : goal.loop-rank-preserved
loop-rank-preserved c =
    let read = read_at c.args.decision.now c.args.entries.now c.loop-rank.rank _ _ c.loop-rank-test.true c.told-entries in
    below_more _ _ c.loop-rank.invariant (sym (c.differ.ensures ∙ read) ∙ c.if-differ.false)
