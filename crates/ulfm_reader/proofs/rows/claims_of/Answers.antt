use Rattle.std.proofs.Common.{sym, ap, ◌∙◌}
use Rattle.ulfm_reader.proofs.Claims.{claims-on, claims-end, claims-done}
use Rattle.ulfm_reader.specs.JobText.{in_job}
use Rattle.ulfm_reader.specs.inside.Reading.{draft_view}
use Rattle.ulfm_reader.proofs.rows.claims_of.Goals as goal

pub returns-in-Err : goal.returns-in-Err
returns-in-Err c = λ _. ap in_job (sym c.loop-value.invariant ∙ claims-end (draft_view c.args.draft.now).scripts c.args.draft.now.names.items c.loop-value.row.items c.args.values.now _ c.in-Err.fault c.loop-value.value-index c.loop-value-test.true c.value-item.is c.in-Err.ensures)

pub loop-value-preserved : goal.loop-value-preserved
loop-value-preserved c = rw (c.in_ok-push.ensures.items, c.in_ok-words.ensures.whole) (sym (claims-on (draft_view c.args.draft.now).scripts c.args.draft.now.names.items c.loop-value.row.items c.args.values.now _ _ c.loop-value.value-index c.loop-value-test.true c.value-item.is c.in-Ok.ensures) ∙ c.loop-value.invariant)

pub returns : goal.returns
returns c = ap in_job (sym c.loop-value.invariant ∙ claims-done (draft_view c.args.draft.now).scripts c.args.draft.now.names.items c.loop-value.row.items c.args.values.now c.loop-value.value-index c.loop-value-test.false)
