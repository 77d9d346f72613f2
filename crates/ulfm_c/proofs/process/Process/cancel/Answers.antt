use Rattle.std.proofs.Common.{ℕ, ap, subst, OnOk}
use Rattle.std.specs.Prelude.{IfOk}
use Rattle.ulfm_base.specs.declared.pattern.Pattern.{Pattern}
use Rattle.ulfm_rank.specs.Answer.{IsRequest}
use Rattle.ulfm_rank.specs.Cancel.{IsCancelAnswer, cancelling}
use Rattle.ulfm_log.specs.State.{State}
use Rattle.ulfm_c.specs.View.{ReadyView}
use Rattle.ulfm_c.proofs.Keeping.{kept-if, own-cancel, quiet-one, state-same}
use Rattle.ulfm_c.proofs.process.Process.cancel.Goals as goal

pub invariant_of-self : goal.invariant_of-self
invariant_of-self c =
    let h = c.self.invariant in let new = c.cancel.new.self.state in
    kept-if new h c.cancel.result c.cancel.ensures.released (state-same c.self.inside.rank c.cancel.new.self c.cancel.result c.cancel.ensures.unchanged) (λ answer s. quiet-one new (cancelling c.args.id answer) h.sound (own-cancel c.args.id answer) s)

pub returns-clause-answer : goal.returns-clause-answer
returns-clause-answer c = subst (λ (r : State). IfOk c.cancel.result (IsCancelAnswer r.ranks r.log c.args.id.number)) (ap (λ (v : ReadyView). v.view.rank) c.self.view_is) c.cancel.ensures.answer

pub returns-clause-request : goal.returns-clause-request
returns-clause-request c = subst (λ (r : State). OnOk c.cancel.result ((i : ℕ) × (pattern : Pattern) × IsRequest r.log c.args.id.number i pattern)) (ap (λ (v : ReadyView). v.view.rank) c.self.view_is) c.cancel.ensures.request
