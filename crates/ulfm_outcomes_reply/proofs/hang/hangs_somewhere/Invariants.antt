use Rattle.std.proofs.Common.{◌≡◌, drop, map}
use Rattle.ulfm_outcomes_list.specs.Listed.{step_view}
use Rattle.ulfm_command_line.specs.Stopped.{asked_view}
use Rattle.ulfm_outcomes_reply.specs.Hangs.{hangs_somewhere}
use Rattle.ulfm_outcomes_reply.proofs.hang.hangs_somewhere.Given as goal

abbrev pub invariant-loop-one : goal.invariant-loop-one
invariant-loop-one g l =
    hangs_somewhere l.search.options.is_strict (asked_view l.asked) (map step_view l.steps) (drop l.one-index l.listed) ≡ hangs_somewhere l.search.options.is_strict (asked_view l.asked) (map step_view l.steps) l.listed
