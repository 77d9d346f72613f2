use Rattle.std.proofs.Common.{sym, ◌∙◌}
use Rattle.ulfm_script.proofs.Waits.{answers_late, cancels_by, tests_by}
use Rattle.ulfm_script.proofs.receiving.cancel.Goals as goal

pub returns-in-Ok-Cancelled-clause-answers : goal.returns-in-Ok-Cancelled-clause-answers
returns-in-Ok-Cancelled-clause-answers c =
    let x = c.in-Ok-Cancelled in
    let a = rw x.field-0-is at x.ensures.answer in
    cancels_by a.0 a.1 (sym c.request_at.ensures ∙ c.in-Some.is) x.ensures.request x.ensures.pairing a.2 (rw x.field-0-is at x.ensures.released)

pub returns-in-Ok-Completed-clause-answers : goal.returns-in-Ok-Completed-clause-answers
returns-in-Ok-Completed-clause-answers c =
    let x = c.in-Ok-Completed in
    let a = rw x.field-0-is at x.ensures.answer in
    answers_late _ _ _ x.answer c.released.result _ (tests_by (sym c.request_at.ensures ∙ c.in-Some.is) x.ensures.request x.ensures.pairing a.1 (rw a.0 (rw x.field-0-is at x.ensures.released))) a.0 c.released.ensures
