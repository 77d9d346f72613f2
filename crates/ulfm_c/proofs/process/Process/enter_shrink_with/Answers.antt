use Rattle.std.proofs.Common.{refl, ap, subst}
use Rattle.std.specs.Prelude.{IfErr}
use Rattle.ulfm_rank.specs.Checks.{FailsOrStarves, shrink_checks}
use Rattle.ulfm_log.specs.State.{State}
use Rattle.ulfm_c.specs.View.{ReadyView}
use Rattle.ulfm_log.specs.declared.entry.Entry.TheVariants.{Entered}
use Rattle.ulfm_c.proofs.Keeping.{kept-ok, quiet-one}
use Rattle.ulfm_c.proofs.process.Process.enter_shrink_with.Goals as goal

pub invariant_of-self : goal.invariant_of-self
invariant_of-self c =
    let h = c.self.invariant in let new = c.enter_shrink_with.new.self.state in
    kept-ok new h c.enter_shrink_with.result c.enter_shrink_with.ensures.enters c.enter_shrink_with.ensures.unchanged (λ s. quiet-one new (Entered s.entrance) h.sound (record { signed = tt; takes_none = λ x. refl }) s.only)

pub returns-clause-refused : goal.returns-clause-refused
returns-clause-refused c = subst (λ (r : State). IfErr c.enter_shrink_with.result (FailsOrStarves (shrink_checks c.args.again r c.args.comm.context))) (ap (λ (v : ReadyView). v.view.rank) c.self.view_is) c.enter_shrink_with.ensures.refused
