use Rattle.std.proofs.Common.{ℕ, List, subst, sym}
use Rattle.ulfm_run.specs.inside.Walk.{GoesOn, IsWalked}
use Rattle.ulfm_run.proofs.Stuck.{all_walked}
use Rattle.ulfm_run.proofs.Found.{found}
use Rattle.ulfm_run.proofs.Fronts.{step_falls}
use Rattle.ulfm_run.proofs.Walked.{walked_none, walked_step}
use Rattle.ulfm_run.proofs.order.have_order.Goals as goal

pub loop-rank-init : goal.loop-rank-init
loop-rank-init c = walked_none c.args.room c.args.reports.now

pub loop-rank-smaller : goal.loop-rank-smaller
loop-rank-smaller c = step_falls c.in-Some.rank c.requires c.loop-rank.invariant.sized c.in-Some.ensures.steps

pub loop-rank-preserved : goal.loop-rank-preserved
loop-rank-preserved c = walked_step c.in-Some.rank c.requires c.loop-rank.invariant c.in-Some.ensures.steps

pub returns : goal.returns
returns c =
    let same = c.in_default.ensures.stays in let reports = c.args.reports.now in let room = c.args.room in let fronts = c.step.new.fronts in (
      λ ended. found room reports fronts (subst (λ (fs : List ℕ). IsWalked room reports fs) (sym same) c.loop-rank.invariant) (c.are_at_ends.ensures.0 ended),
      λ one. c.are_at_ends.ensures.1 (all_walked one.0 one.1 fronts (λ d goes. c.in_default.ensures.stuck d (subst (λ (fs : List ℕ). GoesOn room reports fs d) same goes))),
    )
