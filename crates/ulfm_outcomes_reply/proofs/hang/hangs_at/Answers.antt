use Rattle.std.proofs.Common.{List, map, ap, sym, ◌∙◌}
use Rattle.ulfm_outcomes_list.specs.Listed.{step_view}
use Rattle.ulfm_reader.proofs.Keys.{list_any-map}
use Rattle.ulfm_command_line.specs.Stopped.{asked_view}
use Rattle.ulfm_job.specs.declared.stop.Stop.{Stop}
use Rattle.std.specs.List.{list_any}
use Rattle.ulfm_outcomes_reply.specs.Hangs.{is_hang}
use Rattle.ulfm_outcomes_reply.proofs.hang.hangs_at.Goals as goal

pub returns : goal.returns
returns g c =
    let hangs = λ (stops : List Stop). is_hang c.args.search.now.options.is_strict (asked_view c.args.asked.now) stops c.args.place c.args.found.now in
    c.some_hangs.ensures ∙ sym (list_any-map (hangs c.as_slice.result.now) step_view c.args.steps.now) ∙ ap (λ (stops : List Stop). list_any (hangs stops) (map step_view c.args.steps.now)) (c.as_slice.ensures.value ∙ c.in_ok-stops.ensures)
