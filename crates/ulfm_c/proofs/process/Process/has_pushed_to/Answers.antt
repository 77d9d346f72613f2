use Rattle.std.proofs.Common.{arith, ◌<◌, ◌≤◌, ℕ, ap, subst}
use Rattle.ulfm_log.specs.State.{State}
use Rattle.ulfm_c.specs.View.{ReadyView}
use Rattle.ulfm_c.proofs.process.Process.has_pushed_to.Goals as goal

pub invariant_of-knows_failed : goal.invariant_of-knows_failed
invariant_of-knows_failed c =
    let small = subst (λ (r : State). r.ranks ≤ 8) (ap (λ (v : ReadyView). v.view.rank) c.self.view_is) c.self.invariant.sound.small in
    record { in_range = below c.args.dest c.args.self.now.view.rank.ranks c.requires small }
  where
    below : (d ranks : ℕ) → d < ranks → ranks ≤ 8 → d < 8
    below d ranks inside small = omega arith
