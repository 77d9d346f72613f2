use Rattle.std.proofs.Common.{◌≡◌, map, string_bytes, take}
use Rattle.std.specs.List.{flat_map}
use Rattle.ulfm_outcomes_list.specs.Listed.{step_view}
use Rattle.ulfm_outcomes_reply.specs.Chosen.{labels}
use Rattle.ulfm_outcomes_reply.proofs.picked_steps.labels_of.Given as goal

abbrev pub invariant-loop-at : goal.invariant-loop-at
invariant-loop-at l = map string_bytes l.texts.items ≡ flat_map (labels l.names) (map step_view (take l.at-index l.steps))
