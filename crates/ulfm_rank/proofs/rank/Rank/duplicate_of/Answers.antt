use Rattle.std.proofs.Common.{◌≡◌, ℕ, false, ap, sym, subst, ◌∙◌}
use Rattle.std.proofs.lemmas.Result.{err_from_is_err_and}
use Rattle.ulfm_base.specs.declared.error.CallError.TheVariants.{Revoked}
use Rattle.ulfm_rank.proofs.Common.{RankView, State, dups_of, is_revoked, nth_dup}
use Rattle.ulfm_rank.proofs.Making.{behind}
use Rattle.ulfm_rank.specs.Checks.{Fails, Passes, making_checks}
use Rattle.ulfm_rank.proofs.rank.Rank.duplicate_of.Goals as goal

pub returns-clause-count : goal.returns-clause-count
returns-clause-count c = c.dups-count.ensures ∙ c.self.invariant.follows.communicators.counts c.args.comm.context.number ∙ ap (λ (v : RankView). dups_of v.state.log c.args.comm.context.number) c.self.view_is

pub returns-clause-accepted : goal.returns-clause-accepted
returns-clause-accepted c =
    let r = c.args.self.now.state in
    let x = c.args.comm.context.number in
    let seen = ap (λ (v : RankView). v.state) c.self.view_is in
    let count = c.dups-count.ensures ∙ c.self.invariant.follows.communicators.counts x ∙ ap (λ (s : State). dups_of s.log x) seen in
    let still : is_revoked r.log x ≡ false = ap (λ (s : State). is_revoked s.log x) (sym seen) ∙ sym (c.self.invariant.follows.faults.marks x) ∙ sym c.is_revoked.ensures ∙ c.if-is_revoked.false in
    behind r x _ Revoked (making_checks c.args.again x (dups_of r.log x) (nth_dup (dups_of r.log x) x)) _ c.in_ok-group.ensures.accepted still
    (subst (λ (k : ℕ). Passes (making_checks c.args.again x k (nth_dup k x))) count (c.in_ok-context.ensures.accepted (nth_dup c.dups-count.result x) c.nth_dup-child.ensures))

pub returns-in_err-context-clause-refused : goal.returns-in_err-context-clause-refused
returns-in_err-context-clause-refused c =
    let r = c.args.self.now.state in
    let x = c.args.comm.context.number in
    let seen = ap (λ (v : RankView). v.state) c.self.view_is in
    let count = c.dups-count.ensures ∙ c.self.invariant.follows.communicators.counts x ∙ ap (λ (s : State). dups_of s.log x) seen in
    let still : is_revoked r.log x ≡ false = ap (λ (s : State). is_revoked s.log x) (sym seen) ∙ sym (c.self.invariant.follows.faults.marks x) ∙ sym c.is_revoked.ensures ∙ c.if-is_revoked.false in
    let e = err_from_is_err_and c.from_residual-in_err-context.result c.from_residual-in_err-context.ensures.1 in
    rw (e.1, e.2)
    (behind r x _ Revoked (making_checks c.args.again x (dups_of r.log x) (nth_dup (dups_of r.log x) x)) _ c.in_ok-group.ensures.accepted still
    (subst (λ (k : ℕ). Fails (making_checks c.args.again x k (nth_dup k x)) c.in_err-context.field-0.0) count (c.in_err-context.ensures.refused (nth_dup c.dups-count.result x) c.nth_dup-child.ensures)))
