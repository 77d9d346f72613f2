use Rattle.std.proofs.Common.{ℕ, sym, subst, ◌∙◌}
use Rattle.std.proofs.lemmas.Result.{err_from_is_err_and}
use Rattle.ulfm_base.specs.declared.error.CallError.TheVariants.{AlreadyMade}
use Rattle.ulfm_rank.proofs.Common.{nth_shrink, shrinks}
use Rattle.ulfm_rank.proofs.Making.{behind}
use Rattle.ulfm_rank.specs.Checks.{Fails, Passes, making_checks}
use Rattle.ulfm_rank.proofs.rank.Rank.shrinkable.Goals as goal

pub returns-clause-accepted : goal.returns-clause-accepted
returns-clause-accepted c =
    let x = c.args.comm.context.number in
    behind c.args.self.now.state x _ AlreadyMade (making_checks c.args.again x (shrinks c.args.self.now.state.log x) (nth_shrink (shrinks c.args.self.now.state.log x) x)) _ c.in_ok-running_group.ensures.accepted (sym c.is_in_round.ensures ∙ c.if-is_in_round.false)
    (subst (λ (k : ℕ). Passes (making_checks c.args.again x k (nth_shrink k x))) c.entered-count.ensures (c.in_ok-may_make.ensures.accepted (nth_shrink c.entered-count.result x) c.nth_shrink-child.ensures))

pub returns-in_err-may_make-clause-refused : goal.returns-in_err-may_make-clause-refused
returns-in_err-may_make-clause-refused c =
    let x = c.args.comm.context.number in
    let e = err_from_is_err_and c.from_residual-in_err-may_make.result c.from_residual-in_err-may_make.ensures.1 in
    rw (e.1, e.2)
    (behind c.args.self.now.state x _ AlreadyMade (making_checks c.args.again x (shrinks c.args.self.now.state.log x) (nth_shrink (shrinks c.args.self.now.state.log x) x)) _ c.in_ok-running_group.ensures.accepted (sym c.is_in_round.ensures ∙ c.if-is_in_round.false)
    (subst (λ (k : ℕ). Fails (making_checks c.args.again x k (nth_shrink k x)) c.in_err-may_make.field-0.0) c.entered-count.ensures (c.in_err-may_make.ensures.refused (nth_shrink c.entered-count.result x) c.nth_shrink-child.ensures)))
