use Rattle.std.proofs.Common.{All, take}
use Rattle.ulfm_command_line.specs.Stopped.{asked_view}
use Rattle.ulfm_outcomes_reply.specs.EachPlace.{IsUndrawn}
use Rattle.ulfm_outcomes_reply.proofs.drawing.first_drawn.Given as goal

abbrev pub invariant-loop-one : goal.invariant-loop-one
invariant-loop-one g l = All (IsUndrawn l.search.options (asked_view l.asked)) (take l.one-index l.listed)
