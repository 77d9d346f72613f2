use Rattle.std.proofs.Common.{drop}
use Rattle.ulfm_command_line.specs.Stopped.{asked_view}
use Rattle.ulfm_outcomes_reply.specs.inside.Parts.{GoesOn}
use Rattle.ulfm_outcomes_reply.proofs.place_lists.list_part.Given as goal

abbrev pub invariant-loop-place : goal.invariant-loop-place
invariant-loop-place g l = GoesOn (asked_view l.asked) l.search.options.limit l.places l.listed.items l.past_limit.items (drop l.place-index l.places)
