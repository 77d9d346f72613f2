use Rattle.std.proofs.Common.{◌≡◌, ◌+◌, ◌-◌, ◌<◌, ◌≤◌, ◌++◌, length, map}
use Rattle.ulfm_reader.proofs.WrittenOut.{line, line_view, view}
use Rattle.ulfm_reader.specs.Iterations.{iterations}
use Rattle.ulfm_reader.proofs.steps_written_out.push_iterations.Given as goal

abbrev pub invariant-loop-i : goal.invariant-loop-i
invariant-loop-i l =
    (map line_view l.lines.items ++ map (line l.place) (iterations (map view l.block) l.i (l.times - l.i)) ≡ map line_view l.fn.lines.items ++ map (line l.place) (iterations (map view l.block) 0 l.times))
    × (length l.lines.items ≤ 256)
    × (length l.fn.lines.items ≤ length l.lines.items)
    × (0 < l.i → length l.fn.lines.items + length l.block ≤ length l.lines.items)
