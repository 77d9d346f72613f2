use Rattle.std.proofs.Common.{take}
use Rattle.ulfm_reader.specs.JobText.{rows_of}
use Rattle.ulfm_outcomes_reply.specs.inside.Looking.{AreAmong}
use Rattle.ulfm_outcomes_reply.proofs.never_rows.closed_rows.Given as goal

abbrev pub invariant-loop-row : goal.invariant-loop-row
invariant-loop-row g l = AreAmong l.job (take l.row-index (rows_of l.rows)) l.closed.items
