use Rattle.std.proofs.Common.{sym, ap, ◌∙◌}
use Rattle.ulfm_reader.specs.Goals.{goal_in}
use Rattle.ulfm_reader.specs.JobText.{reading_view}
use Rattle.ulfm_reader.proofs.Naming.{goals-on, goals-end, goals-done}
use Rattle.ulfm_reader.proofs.goals.goals_of.Goals as goal

pub returns-in_default : goal.returns-in_default
returns-in_default c =
    let scripts = (reading_view c.args.reading.now).plan.scripts in
    let names = c.as_slice.ensures.value in
    sym (goals-end scripts c.args.reading.now.names.items c.loop-part.goals.items c.args.parts.now c.loop-part.part-index _ c.trim-part.result.now c.in_default.field-0 c.loop-part-test.true c.trim-part.ensures.trim
    (c.in_default.ensures ∙ ap (λ ns. goal_in scripts ns c.trim-part.result.now) names)) ∙ c.loop-part.invariant

pub loop-part-preserved : goal.loop-part-preserved
loop-part-preserved c =
    let scripts = (reading_view c.args.reading.now).plan.scripts in
    let names = c.as_slice.ensures.value in
    rw (c.in_ok-push.ensures.items, c.in_ok-words.ensures.whole) (sym (goals-on scripts c.args.reading.now.names.items c.loop-part.goals.items c.args.parts.now c.loop-part.part-index _ c.trim-part.result.now _ c.loop-part-test.true c.trim-part.ensures.trim
    (c.in-Ok.ensures ∙ ap (λ ns. goal_in scripts ns c.trim-part.result.now) names)) ∙ c.loop-part.invariant)

pub returns : goal.returns
returns c = sym (goals-done (reading_view c.args.reading.now).plan.scripts c.args.reading.now.names.items c.loop-part.goals.items c.args.parts.now c.loop-part.part-index c.loop-part-test.false) ∙ c.loop-part.invariant
