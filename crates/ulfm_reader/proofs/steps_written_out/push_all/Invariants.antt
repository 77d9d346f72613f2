use Rattle.std.proofs.Common.{◌≡◌, ◌+◌, ◌≤◌, ◌++◌, length, map, take}
use Rattle.ulfm_reader.proofs.WrittenOut.{line, line_view, view}
use Rattle.ulfm_reader.proofs.steps_written_out.push_all.Given as goal

abbrev pub invariant-loop-step : goal.invariant-loop-step
invariant-loop-step l =
    (map line_view l.lines.items ≡ map line_view l.fn.lines.items ++ map (line l.place) (map view (take l.step-index l.steps)))
    × (length l.lines.items ≡ length l.fn.lines.items + l.step-index)
    × (length l.lines.items ≤ 256)
