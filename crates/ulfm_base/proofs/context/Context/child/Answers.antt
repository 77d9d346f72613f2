use Rattle.std.proofs.Common.{◌≡◌, ◌<◌, ◌≤◌, ◌+◌, ap, arith, subst, ◌∙◌, MatchOption}
use Rattle.ulfm_base.specs.declared.context.Context.{Context}
use Rattle.ulfm_base.proofs.Children.{child_early, child_later}
use Rattle.ulfm_base.proofs.context.Context.child.Goals as goal
use Rattle.ulfm_base.proofs.context.Context.child.Goals.{else-n-lt2-via-then-n-lt2+else-self-lt31, else-n-lt2-via-else-n-lt2}

pub returns-then-self-lt31 : goal.returns-then-self-lt31
returns-then-self-lt31 c = child_early c.args.self.number c.args.n c.if-n-lt2.true c.if-self-lt31.true

pub returns-in-Some : goal.returns-in-Some
returns-in-Some c =
    let far : c.args.n < 2 → 31 ≤ c.args.self.number = elim c.else-n-lt2.branch [
      | else-n-lt2-via-then-n-lt2+else-self-lt31 w ↦ λ few. w.if-self-lt31.false
      | else-n-lt2-via-else-n-lt2 w ↦ λ few. absurd (omega (arith, few, w.if-n-lt2.false))
    ] in
    subst (λ x. MatchOption c.of_number.result (35184372088832 ≤ x) (λ (context : Context). context.number ≡ x)) (ap (λ x. 63 + x) c.in-Some.ensures.0 ∙ child_later c.args.self.number c.args.n far) c.of_number.ensures

pub returns-in-None : goal.returns-in-None
returns-in-None c =
    let far : c.args.n < 2 → 31 ≤ c.args.self.number = elim c.else-n-lt2.branch [
      | else-n-lt2-via-then-n-lt2+else-self-lt31 w ↦ λ few. w.if-self-lt31.false
      | else-n-lt2-via-else-n-lt2 w ↦ λ few. absurd (omega (arith, few, w.if-n-lt2.false))
    ] in
    let later = child_later c.args.self.number c.args.n far in
    omega (arith, c.in-None.ensures, later)
