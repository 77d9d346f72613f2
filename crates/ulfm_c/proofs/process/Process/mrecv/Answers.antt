use Rattle.std.proofs.Common.{ℕ, refl, ap, subst, OnOk}
use Rattle.ulfm_base.specs.declared.pattern.Pattern.{Pattern}
use Rattle.ulfm_log.specs.declared.entry.Entry.TheVariants.{Received}
use Rattle.ulfm_rank.specs.Messages.{IsMessage}
use Rattle.ulfm_log.specs.State.{State}
use Rattle.ulfm_c.specs.View.{ReadyView}
use Rattle.ulfm_c.proofs.Keeping.{kept-if, quiet-one, state-same}
use Rattle.ulfm_c.proofs.process.Process.mrecv.Goals as goal

pub invariant_of-self : goal.invariant_of-self
invariant_of-self c =
    let h = c.self.invariant in let new = c.mrecv.new.self.state in
    kept-if new h c.mrecv.result c.mrecv.ensures.received (state-same c.self.inside.rank c.mrecv.new.self c.mrecv.result c.mrecv.ensures.unchanged) (λ answer s. quiet-one new (Received c.args.id answer) h.sound (record { signed = tt; takes_none = λ x. refl }) s)

pub returns-clause-message : goal.returns-clause-message
returns-clause-message c = subst (λ (r : State). OnOk c.mrecv.result ((i : ℕ) × (pattern : Pattern) × IsMessage r.log c.args.id.number i pattern)) (ap (λ (v : ReadyView). v.view.rank) c.self.view_is) c.mrecv.ensures.message
