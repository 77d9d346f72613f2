use Rattle.std.proofs.Common.{[], map, string_bytes}
use Rattle.ulfm_outcomes_list.proofs.Lines.{one-more}
use Rattle.ulfm_outcomes_list.specs.Listed.{step_view}
use Rattle.ulfm_outcomes_reply.specs.Chosen.{labels}
use Rattle.ulfm_outcomes_reply.proofs.picked_steps.labels_of.Goals as goal

pub loop-at-preserved : goal.loop-at-preserved
loop-at-preserved c =
    one-more (labels c.args.names.now) step_view c.args.steps.now c.loop-at.at-index c.at-item.result (map string_bytes c.loop-at.texts.items) (map string_bytes c.push_labels.new.texts.items) [] c.loop-at-test.true c.at-item.is
    c.loop-at.invariant c.in_ok-push_labels.ensures
