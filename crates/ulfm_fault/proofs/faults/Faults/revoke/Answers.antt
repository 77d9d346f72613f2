use Rattle.std.proofs.Common.{true, cond, ◌==◌, ap, ◌∙◌}
use Rattle.std.proofs.lemmas.Bool.{and_parts}
use Rattle.ulfm_base.proofs.Tables.{marked_each}
use Rattle.ulfm_fault.specs.Facts.{FaultState, is_revoked_in}
use Rattle.ulfm_fault.proofs.faults.Faults.revoke.Goals as goal

pub put-requires : goal.put-requires
put-requires c = (and_parts c.self.inside.acknowledged.room c.self.inside.revoked.room (ap (λ (f : FaultState). f.room) c.self.view_is ∙ c.requires.room)).1

pub returns-clause-marks_this_context_alone : goal.returns-clause-marks_this_context_alone
returns-clause-marks_this_context_alone c d =
    marked_each c.args.context.number _ _ tt c.put.ensures.values d
    ∙ ap (λ (f : FaultState). cond (c.args.context.number == d) true (is_revoked_in f d)) c.self.view_is
