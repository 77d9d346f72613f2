use Rattle.std.proofs.Common.{cond, ◌==◌, ap, ◌∙◌}
use Rattle.std.proofs.lemmas.Bool.{and_parts}
use Rattle.ulfm_base.proofs.Tables.{counted_each}
use Rattle.ulfm_fault.specs.Facts.{FaultState, acknowledged_in}
use Rattle.ulfm_fault.proofs.faults.Faults.ack.Goals as goal

pub put-requires : goal.put-requires
put-requires c = (and_parts c.self.inside.acknowledged.room c.self.inside.revoked.room (ap (λ (f : FaultState). f.room) c.self.view_is ∙ c.requires.room)).0

pub returns-clause-sets_this_total_alone : goal.returns-clause-sets_this_total_alone
returns-clause-sets_this_total_alone c d =
    counted_each c.args.context.number c.max-total.result _ _ c.put.ensures.values d
    ∙ ap (λ (f : FaultState). cond (c.args.context.number == d) c.max-total.result (acknowledged_in f d)) c.self.view_is
