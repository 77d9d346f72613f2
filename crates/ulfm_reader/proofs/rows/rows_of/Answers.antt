use Rattle.std.proofs.Common.{sym, ap, ◌∙◌}
use Rattle.ulfm_reader.proofs.Claims.{rows-on, rows-end, rows-done, rows_of-push}
use Rattle.ulfm_reader.specs.JobText.{in_job, rows_of}
use Rattle.ulfm_reader.specs.inside.Reading.{draft_view}
use Rattle.ulfm_reader.proofs.rows.rows_of.Goals as goal

pub returns-in-Err : goal.returns-in-Err
returns-in-Err c = λ no_memory. ap in_job (sym c.loop-value.invariant) ∙ rows-end (draft_view c.args.draft.now).scripts c.args.draft.now.names.items (rows_of c.loop-value.rows.items) c.args.values.now _ _ c.loop-value.value-index c.loop-value-test.true c.value-item.is (c.in-Err.ensures no_memory)

pub loop-value-preserved : goal.loop-value-preserved
loop-value-preserved c = rw (c.in_ok-push.ensures.items, rows_of-push c.loop-value.rows.items c.in-Ok.row) (sym (rows-on (draft_view c.args.draft.now).scripts c.args.draft.now.names.items (rows_of c.loop-value.rows.items) c.args.values.now _ _ c.loop-value.value-index c.loop-value-test.true c.value-item.is c.in-Ok.ensures) ∙ c.loop-value.invariant)

pub returns : goal.returns
returns c = ap in_job (sym c.loop-value.invariant ∙ rows-done (draft_view c.args.draft.now).scripts c.args.draft.now.names.items (rows_of c.loop-value.rows.items) c.args.values.now c.loop-value.value-index c.loop-value-test.false)
