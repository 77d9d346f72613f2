use Rattle.std.proofs.Common.{arith}
use Rattle.ulfm_run.proofs.Placed.{none_at_all, none_further}
use Rattle.ulfm_run.proofs.proposing.is_proposed_by_any.Goals as goal

pub loop-rank-preserved : goal.loop-rank-preserved
loop-rank-preserved c =
    none_further c.args.reports.now c.args.fronts.now c.args.decision.now c.loop-rank.rank c.loop-rank.invariant
    (λ h. let bad : ⊥ = cc (c.is_proposed_by.ensures.1 h, c.if-is_proposed_by.false) in bad)

pub returns : goal.returns
returns c = (
  (λ no. let bad : ⊥ = cc (no) in absurd bad),
  λ h. absurd (none_at_all c.args.reports.now c.args.fronts.now c.args.decision.now (λ r lt. c.loop-rank.invariant r (omega (arith, lt, c.loop-rank-test.false))) h),
)
