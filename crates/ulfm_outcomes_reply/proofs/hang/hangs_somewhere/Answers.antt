use Rattle.std.proofs.Common.{Bool, Some, ap, map, sym, ◌∙◌}
use Rattle.std.proofs.lemmas.List.{drop_all}
use Rattle.std.proofs.lemmas.Option.{slice_get-get_or}
use Rattle.std.specs.List.{list_any}
use Rattle.ulfm_outcomes_list.proofs.Any.{any_here, any_on}
use Rattle.ulfm_outcomes_list.specs.Listed.{step_view}
use Rattle.ulfm_outcomes_list.specs.declared.place_list.Listed.{Listed}
use Rattle.ulfm_command_line.specs.Stopped.{asked_view}
use Rattle.ulfm_outcomes_reply.specs.Hangs.{hangs_at}
use Rattle.ulfm_outcomes_reply.proofs.hang.hangs_somewhere.Goals as goal

pub returns-then-hangs : goal.returns-then-hangs
returns-then-hangs g c =
    let hangs : Listed → Bool = λ one. hangs_at c.args.search.now.options.is_strict (asked_view c.args.asked.now) (map step_view c.args.steps.now) one.place one.found in
    any_here hangs c.args.listed.now c.loop-one.one-index c.one-item.result _ c.loop-one.invariant (slice_get-get_or c.args.listed.now c.loop-one.one-index c.one-item.result c.loop-one-test.true ∙ ap Some (sym c.one-item.is))
    (sym c.in_ok-hangs.ensures ∙ c.if-hangs.true)

pub loop-one-preserved : goal.loop-one-preserved
loop-one-preserved g c =
    let hangs : Listed → Bool = λ one. hangs_at c.args.search.now.options.is_strict (asked_view c.args.asked.now) (map step_view c.args.steps.now) one.place one.found in
    any_on hangs c.args.listed.now c.loop-one.one-index c.one-item.result _ c.loop-one.invariant (slice_get-get_or c.args.listed.now c.loop-one.one-index c.one-item.result c.loop-one-test.true ∙ ap Some (sym c.one-item.is))
    (sym c.in_ok-hangs.ensures ∙ c.if-hangs.false)

pub returns : goal.returns
returns g c =
    let hangs : Listed → Bool = λ one. hangs_at c.args.search.now.options.is_strict (asked_view c.args.asked.now) (map step_view c.args.steps.now) one.place one.found in
    ap (list_any hangs) (sym (drop_all c.loop-one.one-index c.args.listed.now c.loop-one-test.false)) ∙ c.loop-one.invariant
