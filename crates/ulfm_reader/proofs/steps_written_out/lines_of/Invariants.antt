use Rattle.std.proofs.Common.{◌≡◌, ◌≤◌, drop, length, map}
use Rattle.ulfm_reader.proofs.WrittenOut.{line_view, view}
use Rattle.ulfm_reader.specs.Blocks.{items_behind}
use Rattle.ulfm_reader.specs.Lines.{lines_of}
use Rattle.ulfm_reader.proofs.steps_written_out.lines_of.Given as goal

abbrev pub invariant-loop-place : goal.invariant-loop-place
invariant-loop-place l =
    (items_behind l.ranks l.place (map line_view l.lines.items) (map view (drop l.place l.items)) ≡ lines_of l.ranks (map view l.items))
    × (l.place ≤ length l.lines.items)
    × (length l.lines.items ≤ 256)
