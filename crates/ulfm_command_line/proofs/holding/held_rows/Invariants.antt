use Rattle.std.proofs.Common.{◌≡◌, map}
use Rattle.std.specs.List.{range_with_len}
use Rattle.ulfm_reader.specs.JobText.{rows_of}
use Rattle.ulfm_command_line.specs.Holding.{held_row}
use Rattle.ulfm_command_line.specs.Stopped.{asked_view}
use Rattle.ulfm_command_line.proofs.holding.held_rows.Given as goal

abbrev pub invariant-loop-number : goal.invariant-loop-number
invariant-loop-number l = rows_of l.rows.items ≡ map (held_row (asked_view l.read) l.fn.stops) (range_with_len 0 l.number)
