use Rattle.std.proofs.Common.{subst}
use Rattle.std.proofs.lemmas.Result.{IfOk-weaker}
use Rattle.ulfm_reader.specs.JobText.{rows_of}
use Rattle.ulfm_outcomes_spec.specs.Told.{AreNowhere}
use Rattle.ulfm_outcomes_reply.proofs.Looked.{ruled_out}
use Rattle.ulfm_outcomes_reply.proofs.never_rows.list_with_rows.Goals as goal

pub returns-clause-out : goal.returns-clause-out
returns-clause-out g c =
    let job = c.args.job.now in
    let rows = rows_of c.args.rows.now in
    let goals = c.in_ok-goals.goals.items in
    IfOk-weaker c.outcomes_with.result _ _ (λ listed nowhere is. ruled_out job rows goals c.in_ok-goals.ensures (subst (AreNowhere job) c.as_slice.ensures.value (nowhere is))) c.outcomes_with.ensures.nowhere
