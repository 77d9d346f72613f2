use Rattle.std.proofs.Common.{ℕ, ap, subst, OnOk}
use Rattle.ulfm_base.specs.declared.pattern.Pattern.{Pattern}
use Rattle.ulfm_rank.specs.Answer.{IsRequest}
use Rattle.ulfm_log.specs.State.{State}
use Rattle.ulfm_c.specs.View.{ReadyView}
use Rattle.ulfm_c.proofs.Keeping.{kept-test}
use Rattle.ulfm_c.proofs.process.Process.test.Goals as goal

pub invariant_of-self : goal.invariant_of-self
invariant_of-self c = kept-test c.self.inside.rank c.test.new.self c.args.id c.test.result c.self.invariant c.test.ensures.released c.test.ensures.stays c.test.ensures.unchanged

pub returns-clause-request : goal.returns-clause-request
returns-clause-request c = subst (λ (r : State). OnOk c.test.result ((i : ℕ) × (pattern : Pattern) × IsRequest r.log c.args.id.number i pattern)) (ap (λ (v : ReadyView). v.view.rank) c.self.view_is) c.test.ensures.request
