use Rattle.std.proofs.Common.{◌≡◌, ◌++◌, drop, length, map}
use Rattle.ulfm_reader.proofs.WrittenOut.{line_view, view}
use Rattle.ulfm_reader.specs.Guards.{guarded_from}
use Rattle.ulfm_reader.proofs.steps_written_out.guarded_lines.Given as goal

abbrev pub invariant-loop-many : goal.invariant-loop-many
invariant-loop-many l =
    (map line_view l.found.items ++ guarded_from (map view l.items) (map line_view l.lines) l.many (map line_view (drop l.many l.lines)) ≡ guarded_from (map view l.items) (map line_view l.lines) 0 (map line_view l.lines))
    × (length l.found.items ≡ l.many)
