use Rattle.std.proofs.Common.{◌≡◌, filter, map, take}
use Rattle.ulfm_outcomes_list.specs.Listed.{step_view}
use Rattle.ulfm_command_line.specs.Wish.{choice_view}
use Rattle.ulfm_outcomes_reply.specs.Chosen.{is_chosen}
use Rattle.ulfm_outcomes_reply.proofs.picked_steps.kept.Given as goal

abbrev pub invariant-loop-at : goal.invariant-loop-at
invariant-loop-at l = map step_view l.kept.items ≡ filter (is_chosen (choice_view l.choice) (map (λ p. p.now) l.parts) l.names) (map step_view (take l.at-index l.steps))
