use Rattle.ulfm_command_line.specs.Stopped.{asked_view}
use Rattle.ulfm_outcomes_reply.specs.inside.Judging.{IsUnfoundUpTo}
use Rattle.ulfm_outcomes_reply.proofs.unwanted.first_unwanted.Given as goal

abbrev pub invariant-loop-one : goal.invariant-loop-one
invariant-loop-one g l = IsUnfoundUpTo l.search.form l.search.options (asked_view l.asked) l.listed l.one-index l.first
