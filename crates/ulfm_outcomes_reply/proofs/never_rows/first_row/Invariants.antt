use Rattle.ulfm_reader.specs.JobText.{rows_of}
use Rattle.ulfm_outcomes_reply.specs.inside.Looking.{IsUnfoundOf}
use Rattle.ulfm_outcomes_reply.proofs.never_rows.first_row.Given as goal

abbrev pub invariant-loop-number : goal.invariant-loop-number
invariant-loop-number g l = IsUnfoundOf l.job (rows_of l.rows) l.search.options.is_brief l.search.options.limit l.number l.unknown
