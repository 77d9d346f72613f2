use Rattle.std.proofs.Common.{◌∙◌, sym, subst, Option}
use Rattle.ulfm_base.specs.declared.context.Context.{Context}
use Rattle.ulfm_rank.proofs.Making.{late, may, past, second}
use Rattle.ulfm_rank.specs.inside.Rank.{HasNumber}
use Rattle.ulfm_rank.proofs.rank.may_make.Goals as goal

pub returns-then-is_second-clause-refused : goal.returns-then-is_second-clause-refused
returns-then-is_second-clause-refused c = λ n has. second c.args.again c.args.of.number c.args.count n (sym c.is_second.ensures ∙ c.if-is_second.true)

pub returns-then-is_late-clause-refused : goal.returns-then-is_late-clause-refused
returns-then-is_late-clause-refused c = λ n has. late c.args.again c.args.of.number c.args.count n (sym c.is_second.ensures ∙ c.if-is_second.false) (sym c.is_late.ensures ∙ c.if-is_late.true)

pub returns-in-Some-clause-accepted : goal.returns-in-Some-clause-accepted
returns-in-Some-clause-accepted c = λ n has.
    may c.args.again c.args.of.number c.args.count n c.in-Some.context (sym c.is_second.ensures ∙ c.if-is_second.false) (sym c.is_late.ensures ∙ c.if-is_late.false) (subst (λ (o : Option Context). HasNumber o n) c.in-Some.is has)

pub returns-in-None-clause-refused : goal.returns-in-None-clause-refused
returns-in-None-clause-refused c = λ n has.
    past c.args.again c.args.of.number c.args.count n (sym c.is_second.ensures ∙ c.if-is_second.false) (sym c.is_late.ensures ∙ c.if-is_late.false) (subst (λ (o : Option Context). HasNumber o n) c.in-None.is has)
