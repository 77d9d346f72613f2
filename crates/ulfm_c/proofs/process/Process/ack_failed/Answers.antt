use Rattle.std.proofs.Common.{◌≡◌, refl, ap, subst}
use Rattle.std.specs.Prelude.{IfOk, nat_lt}
use Rattle.ulfm_rank.specs.Checks.{group_at}
use Rattle.ulfm_log.specs.Facts.{ack_answer, acknowledged_of}
use Rattle.ulfm_log.specs.State.{State}
use Rattle.ulfm_c.specs.View.{ReadyView}
use Rattle.ulfm_log.specs.declared.entry.Entry.TheVariants.{Acknowledged}
use Rattle.ulfm_c.proofs.Keeping.{kept-if, quiet-cond}
use Rattle.ulfm_c.proofs.process.Process.ack_failed.Goals as goal

pub invariant_of-self : goal.invariant_of-self
invariant_of-self c =
    let h = c.self.invariant in let old = c.self.inside.rank.state in let new = c.ack_failed.new.self.state in let context = c.args.comm.context in
    kept-if new h c.ack_failed.result c.ack_failed.ensures.state c.ack_failed.ensures.unchanged (λ total s. quiet-cond new (nat_lt (acknowledged_of old.log context.number) total) (Acknowledged context total) h.sound (record { signed = tt; takes_none = λ x. refl }) s)

pub returns-clause-total : goal.returns-clause-total
returns-clause-total c =
    subst (λ (r : State). IfOk c.ack_failed.result (λ total. total ≡ ack_answer r.log (group_at r c.args.comm.context.number) c.args.comm.context.number c.args.n)) (ap (λ (v : ReadyView). v.view.rank) c.self.view_is) c.ack_failed.ensures.total
