use Rattle.std.proofs.Common.{◌≡◌, map, take}
use Rattle.ulfm_reader.specs.JobText.{rows_of}
use Rattle.ulfm_command_line.specs.Stopped.{clauses_beside}
use Rattle.ulfm_command_line.proofs.reading_at_place.rows_beside.Given as goal

abbrev pub invariant-loop-row : goal.invariant-loop-row
invariant-loop-row l = rows_of l.moved.items ≡ map (clauses_beside l.fn.stop l.fn.len) (rows_of (take l.row-index l.fn.rows))
